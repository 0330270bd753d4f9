use Rattle.std.proofs.Common.{◌≡◌, replicate, None}
use Rattle.kp_overlap.proofs.label_holders.nones.Given as goal

abbrev pub invariant-loop-i : goal.invariant-loop-i
invariant-loop-i l = l.made.items ≡ replicate l._i None
