use Rattle.std.proofs.Common.{subst}
use Rattle.kp_symbolic.specs.View.{state_view}
use Rattle.kp_unify.specs.Views.{signature_of}
use Rattle.kp_implies.specs.Promises.{TellsOwn}
use Rattle.kp_implies.proofs.ImplyingLemmas.{unmet_here}
use Rattle.kp_implies.proofs.implying.apart.Goals as goal

pub returns-in-None-clause-answered : goal.returns-in-None-clause-answered
returns-in-None-clause-answered c used k own un =
    let g = signature_of c.args.setting.now in
    let s = state_view c.args.state.now in
    unmet_here g used s k (subst (TellsOwn g s) c.in-None.is own) un
