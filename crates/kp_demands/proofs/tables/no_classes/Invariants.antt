use Rattle.std.proofs.Common.{◌≡◌, length}
use Rattle.kp_demands.proofs.tables.no_classes.Given as goal

abbrev pub invariant-loop-i : goal.invariant-loop-i
invariant-loop-i l = length l.classes.items ≡ l._i
