use Rattle.kp_rpc.specs.View.{options_view}
use Rattle.kp_methods.proofs.execute_by_steps.line_over.Goals as goal

pub returns : goal.returns
returns c = λ s runs same verified. c.asked_line.ensures s (options_view c.args.options) runs same c.asked_of-asked.ensures verified
