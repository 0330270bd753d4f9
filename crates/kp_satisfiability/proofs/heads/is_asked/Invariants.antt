use Rattle.std.specs.Prelude.{⊤}
use Rattle.kp_satisfiability.proofs.heads.is_asked.Given as goal

abbrev pub invariant-loop-clause : goal.invariant-loop-clause
invariant-loop-clause l = ⊤
