use Rattle.kp_rpc.specs.View.{id_view}
use Rattle.kp_execute.specs.Answers.{answer_view}
use Rattle.kp_methods.proofs.ExecutedLines.{line_told}
use Rattle.kp_methods.proofs.execute_by_steps.answer_line.Goals as goal

pub returns-in-Some : goal.returns-in-Some
returns-in-Some c = λ s options p clear right.
    line_told s (id_view c.args.id.now) options p (answer_view c.args.answer.now) c.in_ok-line.field-0 c.in-Some.line clear right c.in-Some.is c.in_ok-line.ensures
