use Rattle.std.proofs.Common.{ap}
use Rattle.kp_results.specs.View.{executed_view, state_view, undecided_view}
use Rattle.kp_rpc.specs.View.{id_view}
use Rattle.kp_execute.specs.Answers.{answer_view}
use Rattle.kp_methods.proofs.ExecutedLines.{undecided_line_of, run_line}
use Rattle.kp_methods.proofs.execute_by_steps.line_of.Goals as goal

pub returns-in-Executed : goal.returns-in-Executed
returns-in-Executed c = run_line c.executed_text.result (id_view c.args.id.now) (answer_view c.args.answer.now) (executed_view c.in-Executed.executed) (ap answer_view c.in-Executed.is) c.executed_text.ensures

pub returns-in-UndecidedStep : goal.returns-in-UndecidedStep
returns-in-UndecidedStep c =
    undecided_line_of c.aborted_text.result (id_view c.args.id.now) (answer_view c.args.answer.now) c.in-UndecidedStep.depth (state_view c.in-UndecidedStep.state) (undecided_view c.in-UndecidedStep.undecided) (ap answer_view c.in-UndecidedStep.is) c.aborted_text.ensures
