use Rattle.kp_limits.proofs.WeightLemmas.{ClausesLeft}
use Rattle.kp_limits.proofs.weight.all_literals.Given as goal

abbrev pub invariant-loop-clause : goal.invariant-loop-clause
invariant-loop-clause l = ClausesLeft l.clauses l.clause-index l.literals
