use Rattle.std.proofs.Common.{◌≡◌, drop}
use Rattle.serde_json.specs.View.{items_view}
use Rattle.kp_json.specs.Faults.{are_objects}
use Rattle.kp_json.proofs.member.all_objects.Given as goal

abbrev pub invariant-loop-value : goal.invariant-loop-value
invariant-loop-value l = are_objects (items_view (drop l.value-index l.values)) ≡ are_objects (items_view l.initial.values)
