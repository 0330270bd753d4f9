use Rattle.std.proofs.Common.{ℕ, take, Contains}
use Rattle.kp_rules.specs.Index.{Covers, AreNotOver}
use Rattle.kp_rules.proofs.sort_index.SortIndex.any_covers.Given as goal

abbrev pub invariant-loop-number : goal.invariant-loop-number
invariant-loop-number l = ((j : ℕ) → Contains (take l.number-index l.numbers) j → ¬ Covers l.self j l.among.keys l.others) × AreNotOver l.self l.others l.failed.keys
