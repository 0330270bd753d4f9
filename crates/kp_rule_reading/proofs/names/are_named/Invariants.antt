use Rattle.std.proofs.Common.{◌≡◌, map, drop}
use Rattle.std.specs.List.{list_all}
use Rattle.indexmap.specs.IndexSet.{contains_text}
use Rattle.kp_kore.specs.View.{sorted_variable_view}
use Rattle.kp_rule_reading.proofs.names.are_named.Given as goal

abbrev pub invariant-loop-variable : goal.invariant-loop-variable
invariant-loop-variable l =
    list_all (λ x. contains_text l.names x.name) (map sorted_variable_view l.variables)
    ≡ list_all (λ x. contains_text l.names x.name) (map sorted_variable_view (drop l.variable-index l.variables))
