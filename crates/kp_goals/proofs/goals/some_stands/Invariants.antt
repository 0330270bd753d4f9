use Rattle.std.proofs.Common.{◌≡◌, map, drop}
use Rattle.std.specs.List.{list_any}
use Rattle.kp_kore.specs.Instance.{is_named}
use Rattle.kp_symbolic.specs.States.{clause_variables}
use Rattle.kp_symbolic.specs.View.{literal_view, variables_view}
use Rattle.kp_goals.proofs.goals.some_stands.Given as goal

abbrev pub invariant-loop-variable : goal.invariant-loop-variable
invariant-loop-variable l =
    list_any (λ x. is_named x.name (clause_variables (map literal_view l.literals))) (variables_view l.variables) ≡ list_any (λ x. is_named x.name (clause_variables (map literal_view l.literals))) (variables_view (drop l.variable-index l.variables))
