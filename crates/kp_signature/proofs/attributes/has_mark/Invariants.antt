use Rattle.std.proofs.Common.{◌≡◌, drop}
use Rattle.kp_kore.specs.Attributes.{has_mark as mark_among}
use Rattle.kp_kore.specs.View.{patterns_view}
use Rattle.kp_signature.proofs.attributes.has_mark.Given as goal

abbrev pub invariant-loop-attribute : goal.invariant-loop-attribute
invariant-loop-attribute l = mark_among l.name (patterns_view l.attributes) ≡ mark_among l.name (patterns_view (drop l.attribute-index l.attributes))
