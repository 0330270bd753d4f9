use Rattle.std.proofs.Common.{◌≡◌, drop, not}
use Rattle.std.specs.List.{list_all}
use Rattle.kp_kore.specs.Foreign.{applies_undeclared}
use Rattle.kp_signature.specs.View.{signature_view}
use Rattle.kp_rules.specs.Shapes.{seen}
use Rattle.kp_rule_reading.proofs.parts_read.are_declared.Given as goal

abbrev pub invariant-loop-part : goal.invariant-loop-part
invariant-loop-part l = list_all (λ p. not (applies_undeclared (signature_view l.signature) p)) (seen l.parts) ≡ list_all (λ p. not (applies_undeclared (signature_view l.signature) p)) (seen (drop l.part-index l.parts))
