use Rattle.std.proofs.Common.{◌≡◌, ◌++◌, map, drop, string_bytes}
use Rattle.std.specs.List.{flat_map}
use Rattle.kp_kore.specs.Parts.{without_name}
use Rattle.kp_kore.specs.View.{sorted_variable_view}
use Rattle.kp_symbolic.specs.View.{replaced_view}
use Rattle.kp_outward.specs.Parts.{names_for}
use Rattle.kp_outward.proofs.incoming_names.add_incoming.Given as goal

abbrev pub invariant-loop-variable : goal.invariant-loop-variable
invariant-loop-variable l =
    map string_bytes l.found.items ++ flat_map (names_for (map replaced_view l.replaced)) (without_name l.name (map sorted_variable_view (drop l.variable-index l.variables)))
    ≡ map string_bytes l.fn.found.items ++ flat_map (names_for (map replaced_view l.replaced)) (without_name l.name (map sorted_variable_view l.variables))
