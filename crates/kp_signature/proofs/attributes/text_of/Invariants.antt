use Rattle.std.proofs.Common.{◌≡◌, drop}
use Rattle.kp_kore.specs.Attributes.{text_of as text_among}
use Rattle.kp_kore.specs.View.{patterns_view}
use Rattle.kp_signature.proofs.attributes.text_of.Given as goal

abbrev pub invariant-loop-attribute : goal.invariant-loop-attribute
invariant-loop-attribute l = text_among l.name (patterns_view l.attributes) ≡ text_among l.name (patterns_view (drop l.attribute-index l.attributes))
