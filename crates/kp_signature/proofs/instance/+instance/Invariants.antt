use Rattle.std.proofs.Common.{◌≡◌, map, take}
use Rattle.kp_kore.specs.Sorting.{at_arguments}
use Rattle.kp_kore.specs.View.{sort_view, sorts_view, names_view}
use Rattle.kp_signature.proofs.instance.+instance.Given as goal

abbrev pub invariant-sorts_at-loop-sort : goal.invariant-sorts_at-loop-sort
invariant-sorts_at-loop-sort l = map sort_view l.found.items ≡ map (λ s. at_arguments (names_view l.parameters) (sorts_view l.arguments) (sort_view s)) (take l.sort-index l.sorts)
