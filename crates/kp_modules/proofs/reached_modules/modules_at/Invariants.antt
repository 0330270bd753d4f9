use Rattle.std.proofs.Common.{◌≡◌, Some, map, take, slice_get}
use Rattle.kp_modules.proofs.reached_modules.modules_at.Given as goal

abbrev pub invariant-loop-i : goal.invariant-loop-i
invariant-loop-i l = map (λ m. Some m.now) l.found.items ≡ map (λ p. slice_get l.modules p) (take l.i l.order)
