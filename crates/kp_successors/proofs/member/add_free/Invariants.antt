use Rattle.std.proofs.Common.{◌≡◌, ◌++◌, map, drop}
use Rattle.kp_kore.specs.Parts.{all_free_variables}
use Rattle.kp_kore.specs.View.{patterns_view, sorted_variable_view}
use Rattle.kp_successors.proofs.member.add_free.Given as goal

abbrev pub invariant-loop-pattern : goal.invariant-loop-pattern
invariant-loop-pattern l =
    map sorted_variable_view l.found.items ++ all_free_variables (patterns_view (drop l.pattern-index l.patterns))
    ≡ map sorted_variable_view l.fn.found.items ++ all_free_variables (patterns_view l.patterns)
