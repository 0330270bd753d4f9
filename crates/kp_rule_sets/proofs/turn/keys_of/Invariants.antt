use Rattle.std.proofs.Common.{◌≡◌, take}
use Rattle.kp_rule_sets.specs.Keys.{keys_from}
use Rattle.kp_rule_sets.proofs.turn.keys_of.Given as goal

abbrev pub invariant-loop-place : goal.invariant-loop-place
invariant-loop-place l = l.keys.items ≡ keys_from 0 (take l.place l.rules)
