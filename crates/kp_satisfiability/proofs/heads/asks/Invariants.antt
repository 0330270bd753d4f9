use Rattle.std.specs.Prelude.{⊤}
use Rattle.kp_satisfiability.proofs.heads.asks.Given as goal

abbrev pub invariant-loop-literal : goal.invariant-loop-literal
invariant-loop-literal l = ⊤
