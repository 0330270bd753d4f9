use Rattle.std.proofs.Common.{length}
use Rattle.kp_signature.specs.View.{signature_view}
use Rattle.kp_kore.specs.Sorted.{IsSorted}
use Rattle.kp_ground.specs.View.{value_view}
use Rattle.kp_rule_sets.specs.Merged.{left_of}
use Rattle.kp_rule_sets.specs.Tops.{may_have, top_of}
use Rattle.kp_rule_sets.specs.Turns.{rules_among}
use Rattle.kp_run.specs.Turns.{TellsForeign}
use Rattle.kp_run.proofs.Taking.{IsOnTheWay}
use Rattle.kp_run.proofs.step.foreign_on.Given as goal

abbrev pub invariant-loop-place : goal.invariant-loop-place
invariant-loop-place l =
    IsSorted (signature_view l.rules.signature.value) (value_view l.value) →
    IsOnTheWay l.rules.rules.items (may_have (top_of (value_view l.value)))
    (λ before. TellsForeign (signature_view l.rules.signature.value) (value_view l.value) (rules_among l.rules.rules.items before) l.first) (left_of l.places)

abbrev pub decreases-loop-place : goal.decreases-loop-place
decreases-loop-place l = length (left_of l.places)
