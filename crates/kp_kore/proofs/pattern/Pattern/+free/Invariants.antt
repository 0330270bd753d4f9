use Rattle.std.proofs.Common.{◌≡◌, ◌++◌, map, take}
use Rattle.kp_kore.specs.Parts.{all_free_variables}
use Rattle.kp_kore.specs.View.{patterns_view, sorted_variable_view}
use Rattle.kp_kore.proofs.pattern.Pattern.+free.Given as goal

abbrev pub invariant-add_all_free_vars-loop-pattern : goal.invariant-add_all_free_vars-loop-pattern
invariant-add_all_free_vars-loop-pattern l =
    map sorted_variable_view l.found.items
    ≡ map sorted_variable_view l.fn.found.items ++ all_free_variables (patterns_view (take l.pattern-index l.patterns))
