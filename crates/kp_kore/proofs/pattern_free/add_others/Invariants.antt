use Rattle.std.proofs.Common.{◌≡◌, ◌++◌, map}
use Rattle.kp_kore.specs.Parts.{without_name}
use Rattle.kp_kore.specs.View.{sorted_variable_view}
use Rattle.kp_kore.proofs.pattern_free.add_others.Given as goal

abbrev pub invariant-loop-variable : goal.invariant-loop-variable
invariant-loop-variable l =
    map sorted_variable_view l.found.items
    ≡ map sorted_variable_view l.fn.found.items ++ without_name l.name (map sorted_variable_view l.yielded)
