use Rattle.kp_signature.specs.View.{signature_view}
use Rattle.kp_rules.proofs.Firing.{Rests}
use Rattle.kp_rules.proofs.fires.pass.Given as goal

abbrev pub invariant-loop-test : goal.invariant-loop-test
invariant-loop-test l = Rests (signature_view l.signature) l.bindings l.tests l.test-index
