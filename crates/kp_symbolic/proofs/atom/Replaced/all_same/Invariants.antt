use Rattle.std.proofs.Common.{◌≡◌, map, take}
use Rattle.kp_symbolic.specs.View.{replaced_view}
use Rattle.kp_symbolic.proofs.atom.Replaced.all_same.Given as goal

abbrev pub invariant-loop-i : goal.invariant-loop-i
invariant-loop-i l = map replaced_view (take l.i l.replaced) ≡ map replaced_view (take l.i l.others)
