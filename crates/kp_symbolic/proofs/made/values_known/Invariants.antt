use Rattle.std.proofs.Common.{◌≡◌, map, take}
use Rattle.kp_ground.specs.View.{value_view}
use Rattle.kp_symbolic.specs.Terms.{known}
use Rattle.kp_symbolic.specs.View.{term_view}
use Rattle.kp_symbolic.proofs.made.values_known.Given as goal

abbrev pub invariant-loop-term : goal.invariant-loop-term
invariant-loop-term l = map (λ u. known (value_view u)) l.values.items ≡ map term_view (take l.term-index l.terms)
