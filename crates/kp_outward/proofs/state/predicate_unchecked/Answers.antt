use Rattle.std.proofs.Common.{option_map}
use Rattle.kp_kore.specs.View.{view, sort_view}
use Rattle.kp_signature.specs.View.{signature_view}
use Rattle.kp_symbolic.specs.View.{clauses_view}
use Rattle.kp_outward.specs.View.{patterns_in}
use Rattle.kp_outward.proofs.ArrangedLemmas.{predicate_written}
use Rattle.kp_outward.proofs.state.predicate_unchecked.Goals as goal

pub returns-clause-written : goal.returns-clause-written
returns-clause-written c =
    predicate_written (signature_view c.args.language.now.signature.now) (sort_view c.args.sort.now) (clauses_view c.args.clauses.now) (patterns_in c.in_ok-spelled.spelled.items)
    (option_map (λ p. view p.value) c.in_ok-all_out.field-0) c.in_ok-all_out.ensures c.in_ok-spelled.ensures.written
