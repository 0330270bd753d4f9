use Rattle.std.proofs.Common.{ℕ, ◌↔◌, take, Contains}
use Rattle.kp_rules.specs.Index.{OwnsHeads}
use Rattle.kp_rules.proofs.sort_index.SortIndex.with_heads.Given as goal

abbrev pub invariant-loop-number : goal.invariant-loop-number
invariant-loop-number l = (j : ℕ) → Contains l.found.keys j ↔ (Contains (take l.number-index l.numbers) j × OwnsHeads l.self j)
