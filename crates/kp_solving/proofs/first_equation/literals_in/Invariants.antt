use Rattle.std.proofs.Common.{◌-◌, ◌^◌}
use Rattle.kp_solving.proofs.FirstLemmas.{CountedLeft}
use Rattle.kp_solving.proofs.first_equation.literals_in.Given as goal

abbrev pub invariant-loop-clause : goal.invariant-loop-clause
invariant-loop-clause l = CountedLeft (2 ^ 64 - 1) l.clauses l.clause-index l.count
