use Rattle.std.proofs.Common.{◌≡◌, ◌++◌, map, drop}
use Rattle.kp_symbolic.specs.Languages.{language_view}
use Rattle.kp_symbolic.specs.View.{atom_view, clauses_view}
use Rattle.kp_implies.specs.Printed.{oriented, equalities_in}
use Rattle.kp_implies.proofs.entries.add_all_oriented.Given as goal

abbrev pub invariant-loop-clause : goal.invariant-loop-clause
invariant-loop-clause l =
    map atom_view l.found.items ++ equalities_in (oriented (language_view l.language)) (clauses_view (drop l.clause-index l.clauses)) ≡ map atom_view l.fn.found.items ++ equalities_in (oriented (language_view l.language)) (clauses_view l.clauses)
