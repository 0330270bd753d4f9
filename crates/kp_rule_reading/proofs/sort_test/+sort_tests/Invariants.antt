use Rattle.std.proofs.Common.{take}
use Rattle.kp_kore.specs.Parts.{all_free_variables}
use Rattle.kp_kore.specs.View.{sorts_view, patterns_view}
use Rattle.kp_signature.specs.View.{signature_view}
use Rattle.kp_kore.specs.Value.{HaveSorts}
use Rattle.kp_kore.specs.Instance.{Valuation, instances}
use Rattle.kp_compile.specs.Names.{names_seen}
use Rattle.kp_rule_reading.specs.Tests.{Adds, ReadMore}
use Rattle.kp_rule_reading.proofs.sort_test.+sort_tests.Given as goal

abbrev pub invariant-add_tests_of_arguments-loop-i : goal.invariant-add_tests_of_arguments-loop-i
invariant-add_tests_of_arguments-loop-i l = record {
  tests : (v : Valuation) → HaveSorts (signature_view l.signature) (sorts_view l.places) (instances (signature_view l.signature) v (patterns_view l.patterns)) →
      Adds (signature_view l.signature) v l.fn.tests.items l.tests.items (all_free_variables (patterns_view (take l.i l.patterns)));
  reads : ReadMore (names_seen l.names) (all_free_variables (patterns_view l.patterns)) l.fn.tests.items l.tests.items;
}
