use Rattle.std.proofs.Common.{◌≡◌, ◌++◌, map, drop}
use Rattle.kp_symbolic.specs.View.{atom_view, variable_view}
use Rattle.kp_implies.specs.Printed as model
use Rattle.kp_implies.specs.View.{telling_view}
use Rattle.kp_implies.proofs.tellings.add_written_for.Given as goal

abbrev pub invariant-loop-telling : goal.invariant-loop-telling
invariant-loop-telling l =
    map atom_view l.found.items ++ model.written_for (map telling_view (drop l.telling-index l.tellings)) (variable_view l.variable) ≡ map atom_view l.fn.found.items ++ model.written_for (map telling_view l.tellings) (variable_view l.variable)
