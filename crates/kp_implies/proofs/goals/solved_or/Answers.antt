use Rattle.std.proofs.Common.{subst}
use Rattle.kp_symbolic.specs.View.{state_view}
use Rattle.kp_unify.specs.Views.{signature_of}
use Rattle.kp_implies.specs.Steps.{TellsState}
use Rattle.kp_implies.proofs.FoundLemmas.{solved_some, solved_none, solved_sorted}
use Rattle.kp_implies.proofs.goals.solved_or.Goals as goal

pub returns-in-Instance : goal.returns-in-Instance
returns-in-Instance c safe left =
    let g = signature_of c.args.setting.now in
    let p = state_view c.args.asked in
    let s = state_view c.in_ok-solved.solved in
    solved_some g p s c.in_ok-solved.ensures.right c.in_ok-solved.ensures.solved safe (subst (TellsState g s) c.in-Instance.is (c.in_ok-found_of.ensures (solved_sorted g p s c.in_ok-solved.ensures.right c.in_ok-solved.ensures.solved safe)))

pub returns-in-Nothing : goal.returns-in-Nothing
returns-in-Nothing c safe left =
    let g = signature_of c.args.setting.now in
    let p = state_view c.args.asked in
    let s = state_view c.in_ok-solved.solved in
    solved_none g p s c.in_ok-solved.ensures.right c.in_ok-solved.ensures.solved safe (subst (TellsState g s) c.in-Nothing.is (c.in_ok-found_of.ensures (solved_sorted g p s c.in_ok-solved.ensures.right c.in_ok-solved.ensures.solved safe)))
