use Rattle.std.proofs.Common.{subst}
use Rattle.kp_symbolic.specs.View.{state_view}
use Rattle.kp_unify.specs.Views.{signature_of}
use Rattle.kp_limits.specs.Wide.{first_wide}
use Rattle.kp_goals.specs.View.{consequent_view}
use Rattle.kp_implies.specs.Told.{ShowsWide}
use Rattle.kp_implies.proofs.ImplyingLemmas.{wide_here}
use Rattle.kp_implies.proofs.implying.by_number.Goals as goal

pub returns-in-Some-clause-answered : goal.returns-in-Some-clause-answered
returns-in-Some-clause-answered c used a c' setting question own =
    let g = signature_of c.args.setting.now in
    let s = state_view c.args.state.now in
    let k = consequent_view c.args.consequent.now in
    wide_here g used s k c.in-Some.wide (subst (ShowsWide (first_wide g s)) c.in-Some.is c.in_ok-wide.ensures)
