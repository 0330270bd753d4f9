use Rattle.kp_replies.specs.View.{failure_view}
use Rattle.kp_rpc.specs.View.{id_view}
use Rattle.kp_sides.specs.View.{sides_fault_view}
use Rattle.kp_methods.proofs.Implying.{bad_sides_have_a_line, bad_sides_line}
use Rattle.kp_methods.proofs.implies.sides_line.Goals as goal

pub returns : goal.returns
returns c =
    bad_sides_line (id_view c.args.id.now) (sides_fault_view c.args.fault) (failure_view c.bad_sides-failure.result) c.in_ok-line.field-0 c.in-Some.line c.bad_sides-failure.ensures c.in-Some.is c.in_ok-line.ensures

pub unreachable-requires : goal.unreachable-requires
unreachable-requires c =
    bad_sides_have_a_line (id_view c.args.id.now) (sides_fault_view c.args.fault) (failure_view c.bad_sides-failure.result) c.in_ok-line.field-0 c.bad_sides-failure.ensures c.in_ok-line.ensures c.in-None.is
