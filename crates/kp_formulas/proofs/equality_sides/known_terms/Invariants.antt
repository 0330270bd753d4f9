use Rattle.std.proofs.Common.{◌≡◌, map, take}
use Rattle.kp_ground.specs.View.{value_view}
use Rattle.kp_symbolic.specs.Terms.{known}
use Rattle.kp_symbolic.specs.View.{term_view}
use Rattle.kp_formulas.proofs.equality_sides.known_terms.Given as goal

abbrev pub invariant-loop-value : goal.invariant-loop-value
invariant-loop-value l = map term_view l.terms.items ≡ map (λ u. known (value_view u)) (take l.value-index l.values)
