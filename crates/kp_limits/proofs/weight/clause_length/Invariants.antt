use Rattle.kp_limits.proofs.WeightLemmas.{LiteralsLeft}
use Rattle.kp_limits.proofs.weight.clause_length.Given as goal

abbrev pub invariant-loop-literal : goal.invariant-loop-literal
invariant-loop-literal l = LiteralsLeft l.clause l.literal-index l.length
