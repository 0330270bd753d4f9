use Rattle.std.proofs.Common.{◌≡◌, ◌++◌, map, drop}
use Rattle.std.specs.List.{AllByRecursion}
use Rattle.kp_signature.specs.View.{signature_view}
use Rattle.kp_pattern_substitution.specs.Seen.{replacements_view}
use Rattle.kp_kore.specs.View.{sorted_variable_view}
use Rattle.kp_successors.specs.Nexts.{left_of, new_of}
use Rattle.kp_successors.proofs.Spelling.{IsSpelled, names_of}
use Rattle.kp_successors.proofs.left_replacements.left_replacements.Given as goal

abbrev pub invariant-loop-variable : goal.invariant-loop-variable
invariant-loop-variable l =
    (map (λ r. r.name) (replacements_view l.found.items) ++ names_of (new_of l.side) (map sorted_variable_view (drop l.variable-index l.side.left_variables.items)) ≡ names_of (new_of l.side) (left_of l.side))
    × AllByRecursion (IsSpelled (signature_view l.signature) (left_of l.side) l.bindings) (replacements_view l.found.items)
