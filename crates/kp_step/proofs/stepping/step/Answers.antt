use Rattle.std.proofs.Common.{subst}
use Rattle.kp_symbolic.specs.View.{state_view}
use Rattle.kp_unify.specs.Views.{signature_of}
use Rattle.kp_step.specs.Answers.{IsRightAnswerAlone}
use Rattle.kp_step.proofs.EndLemmas.{answer_at}
use Rattle.kp_step.proofs.stepping.step.Goals as goal

pub returns-in-Nothing : goal.returns-in-Nothing
returns-in-Nothing c t used steps setting ready =
    let s = state_view c.args.state.now in
    subst (IsRightAnswerAlone t.signature s) c.in-Nothing.is (answer_at t used s (signature_of c.args.setting) c.args.next c.in_ok-answer_alone.field-0 steps.signature ready c.in_ok-answer_alone.ensures)

pub returns-in-Instance : goal.returns-in-Instance
returns-in-Instance c t used steps setting ready =
    let s = state_view c.args.state.now in
    c.from_state.ensures t used steps setting ready (subst (IsRightAnswerAlone t.signature s) c.in-Instance.is (answer_at t used s (signature_of c.args.setting) c.args.next c.in_ok-answer_alone.field-0 steps.signature ready c.in_ok-answer_alone.ensures))

pub returns-in_ok-from_open-in-UndecidedClauses : goal.returns-in_ok-from_open-in-UndecidedClauses
returns-in_ok-from_open-in-UndecidedClauses c t used steps setting ready =
    let s = state_view c.args.state.now in
    c.in_ok-from_open-in-UndecidedClauses.ensures t used steps.signature ready.told (subst (IsRightAnswerAlone t.signature s) c.in-UndecidedClauses.is (answer_at t used s (signature_of c.args.setting) c.args.next c.in_ok-answer_alone.field-0 steps.signature ready c.in_ok-answer_alone.ensures))
