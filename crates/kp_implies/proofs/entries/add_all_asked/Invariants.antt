use Rattle.std.proofs.Common.{◌≡◌, ◌++◌, map, drop}
use Rattle.kp_symbolic.specs.States.{same}
use Rattle.kp_symbolic.specs.View.{atom_view, clauses_view}
use Rattle.kp_implies.specs.Printed.{equalities_in}
use Rattle.kp_implies.proofs.entries.add_all_asked.Given as goal

abbrev pub invariant-loop-clause : goal.invariant-loop-clause
invariant-loop-clause l =
    map atom_view l.found.items ++ equalities_in same (clauses_view (drop l.clause-index l.clauses)) ≡ map atom_view l.fn.found.items ++ equalities_in same (clauses_view l.clauses)
