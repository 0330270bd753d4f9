use Rattle.std.proofs.Common.{◌≡◌}
use Rattle.kp_step.proofs.foreign.first_undecided.Given as goal

abbrev pub invariant-loop-open : goal.invariant-loop-open
invariant-loop-open l = l.open-iterator.rest.items ≡ l.fn.opened.items
