use Rattle.std.proofs.Common.{◌≡◌, ◌++◌, map, drop}
use Rattle.kp_kore.specs.View.{view}
use Rattle.kp_pattern_substitution.specs.Seen.{replacements_view}
use Rattle.kp_successors.specs.Choices.{ensured_with}
use Rattle.kp_successors.proofs.chosen.ensured.Given as goal

abbrev pub invariant-loop-predicate : goal.invariant-loop-predicate
invariant-loop-predicate l =
    map view l.found.items ++ ensured_with (replacements_view l.replacements) (map view (drop l.predicate-index l.predicates))
    ≡ ensured_with (replacements_view l.replacements) (map view l.predicates)
