use Rattle.std.proofs.Common.{subst, IfSome}
use Rattle.kp_symbolic.specs.View.{state_view}
use Rattle.kp_symbolic_laws.specs.Safe.{IsSafe}
use Rattle.kp_unify.specs.Views.{signature_of}
use Rattle.kp_step.specs.Solved.{IsKnownAs}
use Rattle.kp_step.proofs.SolvedAnswers.{solved_answer}
use Rattle.kp_step.proofs.part_answers.answer_when_solved.Goals as goal

pub returns-in-Some : goal.returns-in-Some
returns-in-Some c =
    let g = signature_of c.args.setting in
    let p = state_view c.args.part.now in
    solved_answer g p (state_view c.in-Some.solved) c.args.told c.answer_by_solved.result (subst (λ o. IfSome o (λ s. IsSafe g p → IsKnownAs g p (state_view s))) c.in-Some.is c.in_ok-solved.ensures) c.answer_by_solved.ensures
