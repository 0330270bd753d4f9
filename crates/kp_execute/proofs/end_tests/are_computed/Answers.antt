use Rattle.std.proofs.Common.{ap}
use Rattle.std.specs.Option.{option_map}
use Rattle.kp_kore.specs.View.{view}
use Rattle.kp_results.specs.View.{state_view}
use Rattle.kp_signature.specs.View.{signature_view}
use Rattle.kp_execute.proofs.TestedLemmas.{alone_computed, both_computed}
use Rattle.kp_execute.proofs.end_tests.are_computed.Goals as goal

pub returns-in-Some : goal.returns-in-Some
returns-in-Some c = both_computed (signature_view c.args.signature.now) (state_view c.args.state.now) (view c.in-Some.predicate) c.is_computed-in-Some.result (ap (option_map view) c.in-Some.is) (c.in_ok-is_computed.ensures c.if-not-branch.false) c.is_computed-in-Some.ensures

pub returns-in-None : goal.returns-in-None
returns-in-None c = λ all. alone_computed (signature_view c.args.signature.now) (state_view c.args.state.now) (ap (option_map view) c.in-None.is) (c.in_ok-is_computed.ensures c.if-not-branch.false)
