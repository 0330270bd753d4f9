use Rattle.std.proofs.Common.{◌≡◌, ◌++◌, map, drop}
use Rattle.std.specs.List.{flat_map}
use Rattle.kp_compile.specs.Parts.{seen}
use Rattle.kp_kore.specs.Parts.{free_variables}
use Rattle.kp_kore.specs.View.{sorted_variable_view}
use Rattle.kp_sides.proofs.binders.variables_in.Given as goal

abbrev pub invariant-loop-term : goal.invariant-loop-term
invariant-loop-term l = map sorted_variable_view l.found.items ++ flat_map free_variables (seen (drop l.term-index l.terms)) ≡ flat_map free_variables (seen l.terms)
