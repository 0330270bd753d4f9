use Rattle.kp_replies.specs.View.{failure_view}
use Rattle.kp_rpc.specs.View.{id_view}
use Rattle.kp_methods.proofs.SimplifiedLines.{undecided_told}
use Rattle.kp_methods.proofs.simplify.undecided_line.Goals as goal

pub returns-in-Some : goal.returns-in-Some
returns-in-Some c = λ g p u right same.
    undecided_told g p (id_view c.args.id.now) u (failure_view c.args.cause.now) c.in_ok-line.field-0 c.in-Some.line right same c.in-Some.is c.in_ok-line.ensures
