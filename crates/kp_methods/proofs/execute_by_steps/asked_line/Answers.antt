use Rattle.kp_kore.specs.View.{view}
use Rattle.kp_replies.specs.RightReplies.{asked_options}
use Rattle.kp_results.specs.View as results
use Rattle.kp_symbolic.specs.Languages.{language_view}
use Rattle.kp_execute.specs.Answers.{answer_view}
use Rattle.kp_methods.proofs.ExecutedLines.{clear_over, lacks_over, right_over, unexecuted_over}
use Rattle.kp_methods.proofs.execute_by_steps.asked_line.Goals as goal

pub returns-in-Ok : goal.returns-in-Ok
returns-in-Ok c = λ s options runs same asked verified.
    let p = view c.args.pattern.now in
    c.answer_line.ensures s options p (clear_over (language_view c.args.language.now) s.theory.signature same p c.in-Ok.ensures.clear)
    (right_over s.theory (results.options_view c.args.asked.now) (asked_options options) asked p (answer_view c.in-Ok.answer) (c.in-Ok.ensures.found s.theory runs same verified))

pub returns-in-Err : goal.returns-in-Err
returns-in-Err c = λ s options runs same asked verified.
    let p = view c.args.pattern.now in
    c.refused_line.ensures s options p (unexecuted_over (language_view c.args.language.now) s.theory.signature same p c.in-Err.error c.in-Err.ensures.refused)
    (lacks_over s.theory (results.options_view c.args.asked.now) (asked_options options) asked p c.in-Err.error (c.in-Err.ensures.wants s.theory runs same verified))
