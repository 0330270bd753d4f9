use Rattle.std.proofs.Common.{◌≡◌, not, map, drop}
use Rattle.std.specs.List.{list_all}
use Rattle.kp_kore.specs.View.{sorted_variable_view}
use Rattle.kp_kore.specs.Instance.{is_named}
use Rattle.kp_rule_reading.proofs.old_parts.are_old.Given as goal

abbrev pub invariant-loop-variable : goal.invariant-loop-variable
invariant-loop-variable l =
    list_all (λ x. not (is_named x.name (map sorted_variable_view l.new_variables))) (map sorted_variable_view l.variables)
    ≡ list_all (λ x. not (is_named x.name (map sorted_variable_view l.new_variables))) (map sorted_variable_view (drop l.variable-index l.variables))
