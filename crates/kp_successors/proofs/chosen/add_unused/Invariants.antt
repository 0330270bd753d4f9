use Rattle.std.proofs.Common.{◌≡◌, ◌++◌, not, map, drop}
use Rattle.std.specs.List.{filter}
use Rattle.kp_kore.specs.View.{view, sort_view, sorted_variable_view}
use Rattle.kp_rules.specs.Known.{is_among}
use Rattle.kp_successors.specs.Choices.{equal_to_itself}
use Rattle.kp_successors.proofs.chosen.add_unused.Given as goal

abbrev pub invariant-loop-variable : goal.invariant-loop-variable
invariant-loop-variable l =
    map view l.patterns.items ++ map (equal_to_itself (sort_view l.sort)) (filter (λ x. not (is_among x (map sorted_variable_view l.others))) (map sorted_variable_view (drop l.variable-index l.variables)))
    ≡ map view l.fn.patterns.items ++ map (equal_to_itself (sort_view l.sort)) (filter (λ x. not (is_among x (map sorted_variable_view l.others))) (map sorted_variable_view l.variables))
