use Rattle.std.proofs.Common.{◌-◌, drop, length}
use Rattle.kp_clause_demands.specs.Numbers.{texts, AreEachOnce}
use Rattle.kp_clause_demands.proofs.unknowns.each_once.Given as goal

abbrev pub invariant-loop-i : goal.invariant-loop-i
invariant-loop-i l = AreEachOnce (texts l.found.items) (texts (drop (length l.names - l.i) l.names))
