use Rattle.std.proofs.Common.{◌≡◌, ◌++◌, map, drop}
use Rattle.kp_symbolic.specs.View.{atom_view, clauses_view}
use Rattle.kp_implies.specs.Printed as model
use Rattle.kp_implies.proofs.substitution.alone_clauses.Given as goal

abbrev pub invariant-loop-atom : goal.invariant-loop-atom
invariant-loop-atom l =
    clauses_view l.found.items ++ model.alone_clauses (map atom_view (drop l.atom-index l.all)) ≡ model.alone_clauses (map atom_view l.all)
