use Rattle.std.proofs.Common.{rules, ◌≡◌, None}
use Rattle.kp_symbolic.specs.View.{state_view}
use Rattle.kp_unify.specs.Views.{signature_of}
use Rattle.kp_goals.specs.View.{consequent_view}
use Rattle.kp_implies.proofs.ConcludedLemmas.{all_concluded}
use Rattle.kp_implies.proofs.concluded.concluded.Goals as goal

pub returns-then-is_none-2-clause-answered : goal.returns-then-is_none-2-clause-answered
returns-then-is_none-2-clause-answered c =
    let g = signature_of c.args.setting.now in
    let s = state_view c.args.state.now in
    let k = consequent_view c.args.consequent.now in
    let part = state_view c.args.part.now in
    let apart : c.args.apart ≡ None = search rules in
    let goal' : c.args.goal ≡ None = search rules in
    all_concluded g s k part c.args.apart c.args.goal c.valid.result apart goal' c.valid.ensures.answered
