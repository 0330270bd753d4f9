use Rattle.std.proofs.Common.{ap}
use Rattle.kp_kore.specs.Parts.{free_variables}
use Rattle.kp_kore.specs.View.{view}
use Rattle.kp_signature.specs.View.{signature_view}
use Rattle.kp_compile.specs.Names.{names_seen}
use Rattle.kp_rules.specs.Bound.{tests_read}
use Rattle.kp_rule_reading.proofs.TestLemmas.{all_added}
use Rattle.kp_rule_reading.proofs.sort_test.sort_tests.Goals as goal

pub returns-clause-tests : goal.returns-clause-tests
returns-clause-tests c = λ verified v sorted.
    all_added (signature_view c.args.signature.now) v c.new-tests.result.items c.add_tests.new.tests.items (free_variables (view c.args.left.now))
    c.new-tests.ensures.items (c.in_ok-add_tests.ensures.tests v sorted)

pub returns-clause-reads : goal.returns-clause-reads
returns-clause-reads c = λ named. c.in_ok-add_tests.ensures.reads named (ap (tests_read (names_seen c.args.names.now)) c.new-tests.ensures.items)
