use Rattle.kp_limits.proofs.SumLemmas.{SumLeft, count_in}
use Rattle.kp_limits.proofs.places.+numbers.Given as goal

abbrev pub invariant-numbers_in_all-loop-value : goal.invariant-numbers_in_all-loop-value
invariant-numbers_in_all-loop-value l = SumLeft count_in l.values l.value-index l.count
