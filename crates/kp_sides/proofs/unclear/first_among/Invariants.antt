use Rattle.std.proofs.Common.{◌≡◌, map, drop, not, ◌&&◌, ◌||◌}
use Rattle.std.specs.List.{find, list_any}
use Rattle.std.specs.Option.{option_map}
use Rattle.std.specs.Str.{bytes_eq}
use Rattle.kp_kore.specs.Attributes.{sorts_equal}
use Rattle.kp_kore.specs.Instance.{is_named}
use Rattle.kp_kore.specs.View.{sorted_variable_view}
use Rattle.kp_rules.specs.Shapes.{variables_seen}
use Rattle.kp_sides.proofs.unclear.first_among.Given as goal

abbrev pub invariant-loop-variable : goal.invariant-loop-variable
invariant-loop-variable l =
    let xs = map sorted_variable_view l.all in
    option_map (λ x. x.name) (find (λ x. list_any (λ y. bytes_eq x.name y.name && not (sorts_equal x.sort y.sort)) xs || is_named x.name (variables_seen l.binders)) (map sorted_variable_view l.variables))
    ≡ option_map (λ x. x.name) (find (λ x. list_any (λ y. bytes_eq x.name y.name && not (sorts_equal x.sort y.sort)) xs || is_named x.name (variables_seen l.binders)) (map sorted_variable_view (drop l.variable-index l.variables)))
