use Rattle.std.proofs.Common.{◌≡◌, ◌++◌, drop}
use Rattle.kp_clause_demands.specs.Numbers.{texts, all_truths}
use Rattle.kp_clause_demands.proofs.unknowns.truths_of.Given as goal

abbrev pub invariant-loop-clause : goal.invariant-loop-clause
invariant-loop-clause l = texts l.names.items ++ all_truths (drop l.clause-index l.clauses) ≡ all_truths l.clauses
