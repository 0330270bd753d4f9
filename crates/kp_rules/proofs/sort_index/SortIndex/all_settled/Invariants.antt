use Rattle.std.proofs.Common.{ℕ, take, Contains}
use Rattle.kp_rules.specs.Index.{IsSettled}
use Rattle.kp_rules.proofs.sort_index.SortIndex.all_settled.Given as goal

abbrev pub invariant-loop-number : goal.invariant-loop-number
invariant-loop-number l = (j : ℕ) → Contains (take l.number-index l.numbers) j → IsSettled l.self j l.under.keys l.below.keys l.above.keys l.heads.keys
