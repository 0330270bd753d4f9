use Rattle.std.proofs.Common.{◌≡◌, ◌∷◌, ◌++◌, map, drop, string_bytes}
use Rattle.kp_outward.proofs.test.with_first.Given as goal

abbrev pub invariant-loop-other : goal.invariant-loop-other
invariant-loop-other l = map string_bytes l.all.items ++ map string_bytes (drop l.other-index l.names) ≡ string_bytes l.name ∷ map string_bytes l.names
