use Rattle.kp_kore.specs.View.{sort_view}
use Rattle.kp_signature.specs.View.{signature_view}
use Rattle.kp_outward.proofs.ArrangedLemmas.{clauses_written}
use Rattle.kp_outward.proofs.state.arranged_out.Goals as goal

pub returns-clause-written : goal.returns-clause-written
returns-clause-written c =
    clauses_written (signature_view c.args.language.now.signature.now) (sort_view c.args.sort.now) c.args.clauses.now c.in_ok-spelled.spelled.items c.put_in_order.new.spelled.items c.in_ok-each_once.field-0.items
    c.in_ok-spelled.ensures.written c.put_in_order.ensures.same c.in_ok-each_once.ensures
