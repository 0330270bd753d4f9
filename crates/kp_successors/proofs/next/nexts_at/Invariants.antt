use Rattle.std.proofs.Common.{length, map}
use Rattle.std.specs.List.{AllByRecursion}
use Rattle.kp_kore.specs.View.{view}
use Rattle.kp_signature.specs.View.{signature_view}
use Rattle.kp_ground.specs.View.{value_view}
use Rattle.kp_rule_sets.specs.Merged.{left_of}
use Rattle.kp_rule_sets.specs.Tops.{may_have, top_of}
use Rattle.kp_rule_sets.specs.Turns.{rules_among}
use Rattle.kp_run.proofs.Taking.{IsOnTheWay}
use Rattle.kp_successors.specs.Turns.{AreNexts, IsWideAt}
use Rattle.kp_successors.proofs.next.nexts_at.Given as goal

abbrev pub invariant-loop-place : goal.invariant-loop-place
invariant-loop-place l =
    IsOnTheWay l.rules.rules.items (may_have (top_of (value_view l.value)))
    (λ before. AreNexts (signature_view l.rules.signature.value) (value_view l.value) l.priority (rules_among l.rules.rules.items before) (map view l.found.items)
    × AllByRecursion (λ r. ¬ IsWideAt (signature_view l.rules.signature.value) (value_view l.value) l.priority r) (rules_among l.rules.rules.items before)) (left_of l.places)

abbrev pub decreases-loop-place : goal.decreases-loop-place
decreases-loop-place l = length (left_of l.places)
