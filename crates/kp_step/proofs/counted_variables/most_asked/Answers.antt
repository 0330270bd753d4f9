use Rattle.std.proofs.Common.{subst, IfOk}
use Rattle.kp_symbolic.specs.View.{state_view}
use Rattle.std.specs.Option.{option_map}
use Rattle.kp_rules.specs.Skeletons.{skeleton_view}
use Rattle.kp_step.specs.Counted.{IsMost}
use Rattle.kp_step.specs.Promises.{AreAsked}
use Rattle.kp_step.proofs.CountLemmas.{asked_with, asked_alone}
use Rattle.kp_step.proofs.counted_variables.most_asked.Goals as goal

pub returns-in-Some : goal.returns-in-Some
returns-in-Some c t o found a =
    let of = subst (λ l. AreAsked t c.args.setting c.args.rules.now c.args.turns.now (option_map (λ x. skeleton_view x.now) l) o found) c.in-Some.is a in
    asked_with t c.args.setting c.args.rules.now c.args.turns.now (skeleton_view c.in-Some.left.now) o found (λ rs. IfOk c.most_with.result (IsMost t.signature (state_view c.args.state.now) rs)) of (λ r steps form z. c.most_with.ensures t r found steps form z)

pub returns-in-None : goal.returns-in-None
returns-in-None c t o found a =
    let of = subst (λ l. AreAsked t c.args.setting c.args.rules.now c.args.turns.now (option_map (λ x. skeleton_view x.now) l) o found) c.in-None.is a in
    asked_alone t c.args.setting c.args.rules.now c.args.turns.now o found (λ rs. IfOk c.most_left.result (IsMost t.signature (state_view c.args.state.now) rs)) of (λ steps z. c.most_left.ensures t found steps z)
