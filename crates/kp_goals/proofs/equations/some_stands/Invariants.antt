use Rattle.std.proofs.Common.{◌≡◌, drop}
use Rattle.std.specs.List.{list_any}
use Rattle.kp_kore.specs.Instance.{is_named}
use Rattle.kp_symbolic.specs.Terms.{term_variables}
use Rattle.kp_symbolic.specs.View.{term_view, variables_view}
use Rattle.kp_goals.proofs.equations.some_stands.Given as goal

abbrev pub invariant-loop-variable : goal.invariant-loop-variable
invariant-loop-variable l = list_any (λ x. is_named x.name (term_variables (term_view l.term))) (variables_view l.variables) ≡ list_any (λ x. is_named x.name (term_variables (term_view l.term))) (variables_view (drop l.variable-index l.variables))
