use Rattle.kp_kore.specs.View.{view}
use Rattle.kp_rpc.specs.View.{id_view}
use Rattle.kp_methods.proofs.SimplifiedLines.{state_told}
use Rattle.kp_methods.proofs.simplify.state_line.Goals as goal

pub returns-in-Some : goal.returns-in-Some
returns-in-Some c = λ g p r right same.
    state_told g p (id_view c.args.id.now) r (view c.args.state.now) c.in_ok-line.field-0 c.in-Some.line right same c.in-Some.is c.in_ok-line.ensures
