-- What the code's matches and tellings are.
use Rattle.kp_kore.specs.View.{sort_view}
use Rattle.kp_symbolic.specs.View.{atom_view, term_view, variable_view, variables_view}
use Rattle.kp_implies.specs.Printed as model
use Rattle.kp_implies.specs.declared.matched.Matched.{Matched}
use Rattle.kp_implies.specs.declared.tellings.Telling.{Telling}

abbrev pub matched_view : Matched → model.Matched
matched_view m = record { variable = variable_view m.variable.value; sort = sort_view m.sort.value; term = term_view m.term }

abbrev pub telling_view : Telling → model.Telling
telling_view t = record { atom = atom_view t.atom; told = variables_view t.told.items }
