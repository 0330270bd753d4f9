use Rattle.std.proofs.Common.{◌-◌, length}
use Rattle.kp_limits.proofs.NameLemmas.{Counts, texts_from}
use Rattle.kp_limits.proofs.weight.count_once.Given as goal

abbrev pub invariant-loop-i : goal.invariant-loop-i
invariant-loop-i l = Counts l.later (texts_from l.names (length l.names - l.i))
