use Rattle.kp_limits.proofs.WeightLemmas.{ChoicesLeft}
use Rattle.kp_limits.proofs.weight.product_of_lengths.Given as goal

abbrev pub invariant-loop-clause : goal.invariant-loop-clause
invariant-loop-clause l = ChoicesLeft l.clauses l.clause-index l.product
