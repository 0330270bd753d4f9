use Rattle.std.proofs.Common.{◌≡◌, ◌++◌, map, drop}
use Rattle.kp_symbolic.specs.View.{clauses_view}
use Rattle.kp_case_laws.specs.Courses.{all_equality_clauses}
use Rattle.kp_unify.specs.Views.{signature_of, equality_view}
use Rattle.kp_unify.proofs.meeting.equations.Given as goal

abbrev pub invariant-loop-equality : goal.invariant-loop-equality
invariant-loop-equality l =
    let g = signature_of l.setting in
    clauses_view l.found.items ++ all_equality_clauses g (map equality_view (drop l.equality-index l.equalities)) ≡ all_equality_clauses g (map equality_view l.equalities)
