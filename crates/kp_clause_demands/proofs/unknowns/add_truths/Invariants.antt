use Rattle.std.proofs.Common.{◌≡◌, ◌++◌, drop}
use Rattle.kp_clause_demands.specs.Numbers.{texts, truths_in}
use Rattle.kp_clause_demands.proofs.unknowns.add_truths.Given as goal

abbrev pub invariant-loop-literal : goal.invariant-loop-literal
invariant-loop-literal l = texts l.names.items ++ truths_in (drop l.literal-index l.clause) ≡ texts l.fn.names.items ++ truths_in l.clause
