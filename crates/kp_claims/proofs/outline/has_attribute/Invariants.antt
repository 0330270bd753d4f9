use Rattle.std.proofs.Common.{◌≡◌, drop}
use Rattle.kp_kore.specs.View.{patterns_view}
use Rattle.kp_claims.specs.Claims.{has_attribute as attribute_among}
use Rattle.kp_claims.proofs.outline.has_attribute.Given as goal

abbrev pub invariant-loop-attribute : goal.invariant-loop-attribute
invariant-loop-attribute l = attribute_among l.name (patterns_view l.attributes) ≡ attribute_among l.name (patterns_view (drop l.attribute-index l.attributes))
