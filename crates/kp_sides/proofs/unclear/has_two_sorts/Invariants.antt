use Rattle.std.proofs.Common.{◌≡◌, map, drop, not, ◌&&◌}
use Rattle.std.specs.List.{list_any}
use Rattle.std.specs.Str.{bytes_eq}
use Rattle.kp_kore.specs.Attributes.{sorts_equal}
use Rattle.kp_kore.specs.View.{sorted_variable_view}
use Rattle.kp_sides.proofs.unclear.has_two_sorts.Given as goal

abbrev pub invariant-loop-other : goal.invariant-loop-other
invariant-loop-other l =
    let x = sorted_variable_view l.variable in
    list_any (λ y. bytes_eq x.name y.name && not (sorts_equal x.sort y.sort)) (map sorted_variable_view l.variables) ≡ list_any (λ y. bytes_eq x.name y.name && not (sorts_equal x.sort y.sort)) (map sorted_variable_view (drop l.other-index l.variables))
