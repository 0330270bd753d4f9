use Rattle.std.proofs.Common.{◌≡◌, ◌++◌, not, map}
use Rattle.std.specs.List.{filter}
use Rattle.indexmap.specs.IndexSet.{contains_text}
use Rattle.kp_kore.specs.View.{sorted_variable_view}
use Rattle.kp_rule_reading.proofs.choice.add_unnamed.Given as goal

abbrev pub invariant-loop-variable : goal.invariant-loop-variable
invariant-loop-variable l =
    map sorted_variable_view l.found.items ++ filter (λ x. not (contains_text l.names x.name)) (map sorted_variable_view l.variable-iterator.rest.items)
    ≡ map sorted_variable_view l.fn.found.items ++ filter (λ x. not (contains_text l.names x.name)) (map sorted_variable_view l.fn.variables.items)
