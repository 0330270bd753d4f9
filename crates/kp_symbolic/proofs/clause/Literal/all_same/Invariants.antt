use Rattle.std.proofs.Common.{◌≡◌, map, take}
use Rattle.kp_symbolic.specs.View.{literal_view}
use Rattle.kp_symbolic.proofs.clause.Literal.all_same.Given as goal

abbrev pub invariant-loop-i : goal.invariant-loop-i
invariant-loop-i l = map literal_view (take l.i l.literals) ≡ map literal_view (take l.i l.others)
