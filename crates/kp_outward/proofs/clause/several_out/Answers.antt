use Rattle.std.proofs.Common.{map}
use Rattle.kp_kore.specs.View.{view, sort_view}
use Rattle.kp_signature.specs.View.{signature_view}
use Rattle.kp_symbolic.specs.View.{literal_view}
use Rattle.kp_outward.proofs.ArrangedLemmas.{several_written}
use Rattle.kp_outward.proofs.clause.several_out.Goals as goal

pub returns-clause-written : goal.returns-clause-written
returns-clause-written c =
    several_written (signature_view c.args.language.now.signature.now) (sort_view c.args.sort.now) (map literal_view c.args.literals.now) c.in_ok-spelled.spelled.items c.put_in_order.new.spelled.items
    (view c.in_ok-either_out.field-0.value) c.in_ok-spelled.ensures.written c.put_in_order.ensures.same c.put_in_order.ensures.in_order c.in_ok-either_out.ensures
