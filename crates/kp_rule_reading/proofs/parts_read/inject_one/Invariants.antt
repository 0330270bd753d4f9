use Rattle.std.proofs.Common.{◌≡◌, drop, not}
use Rattle.std.specs.List.{list_all}
use Rattle.kp_signature.specs.View.{signature_view}
use Rattle.kp_compile.specs.Verified.{misapplies_injection}
use Rattle.kp_rules.specs.Shapes.{seen}
use Rattle.kp_rule_reading.proofs.parts_read.inject_one.Given as goal

abbrev pub invariant-loop-part : goal.invariant-loop-part
invariant-loop-part l = list_all (λ p. not (misapplies_injection (signature_view l.signature) p)) (seen l.parts) ≡ list_all (λ p. not (misapplies_injection (signature_view l.signature) p)) (seen (drop l.part-index l.parts))
