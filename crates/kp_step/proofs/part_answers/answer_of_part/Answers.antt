use Rattle.std.proofs.Common.{subst}
use Rattle.kp_symbolic.specs.View.{state_view}
use Rattle.kp_unify.specs.Views.{signature_of}
use Rattle.kp_step.specs.Answers.{IsRightAnswerOf}
use Rattle.kp_step.proofs.SortedLemmas.{sorted_clauses}
use Rattle.kp_step.proofs.SolvedAnswers.{part_answer}
use Rattle.kp_step.proofs.part_answers.answer_of_part.Goals as goal

pub returns-in-Instance : goal.returns-in-Instance
returns-in-Instance c safe =
    let g = signature_of c.args.setting in
    let p = state_view c.args.part.now in
    subst (IsRightAnswerOf g (state_view c.args.state.now) p) c.in-Instance.is (c.in_ok-answer_of.ensures (sorted_clauses g p safe.sorted))

pub returns-in-Nothing : goal.returns-in-Nothing
returns-in-Nothing c safe =
    let g = signature_of c.args.setting in
    let p = state_view c.args.part.now in
    subst (IsRightAnswerOf g (state_view c.args.state.now) p) c.in-Nothing.is (c.in_ok-answer_of.ensures (sorted_clauses g p safe.sorted))

pub returns-in-UndecidedClauses : goal.returns-in-UndecidedClauses
returns-in-UndecidedClauses c =
    let g = signature_of c.args.setting in
    let s = state_view c.args.state.now in
    let p = state_view c.args.part.now in
    part_answer g s p c.in-UndecidedClauses.told c.answer_when_solved.result
    (λ safe. subst (IsRightAnswerOf g s p) c.in-UndecidedClauses.is (c.in_ok-answer_of.ensures (sorted_clauses g p safe.sorted)))
    c.answer_when_solved.ensures
