-- Which new variables the code's are.
use Rattle.std.specs.Prelude.{map}
use Rattle.kp_symbolic.specs.View.{replaced_view, variables_view}
use Rattle.kp_step.specs.RightSides.{ChosenNew}
use Rattle.kp_step.specs.declared.new_variables.Chosen.{Chosen}

abbrev pub chosen_view : Chosen → ChosenNew
chosen_view c = record { bindings = map replaced_view c.bindings.items; new = variables_view c.made.items; next = c.next }
