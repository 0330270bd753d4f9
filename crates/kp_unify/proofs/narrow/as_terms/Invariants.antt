use Rattle.std.proofs.Common.{◌≡◌, ◌++◌, map, drop}
use Rattle.kp_symbolic.specs.Terms.{unknown}
use Rattle.kp_symbolic.specs.View.{variable_view, term_view}
use Rattle.kp_unify.proofs.narrow.as_terms.Given as goal

abbrev pub invariant-loop-variable : goal.invariant-loop-variable
invariant-loop-variable l = map term_view l.terms.items ++ map (λ x. unknown (variable_view x.value)) (drop l.variable-index l.variables) ≡ map (λ x. unknown (variable_view x.value)) l.variables
