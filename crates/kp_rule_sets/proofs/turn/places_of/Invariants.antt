use Rattle.std.proofs.Common.{◌≡◌, ◌%◌, ◌^◌, map, take}
use Rattle.kp_rule_sets.proofs.turn.places_of.Given as goal

abbrev pub invariant-loop-key : goal.invariant-loop-key
invariant-loop-key l = l.places.items ≡ map (λ k. k % 2 ^ 64) (take l.key-index l.keys)
