use Rattle.kp_overlap.proofs.SortLemmas.{AreEmpty}
use Rattle.kp_overlap.proofs.sorts.no_groups.Given as goal

abbrev pub invariant-loop-label : goal.invariant-loop-label
invariant-loop-label l = AreEmpty l.groups.items
