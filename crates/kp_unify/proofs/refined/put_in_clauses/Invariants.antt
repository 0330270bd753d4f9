use Rattle.std.proofs.Common.{◌≡◌, ◌++◌, drop}
use Rattle.std.specs.List.{flat_map}
use Rattle.kp_symbolic.specs.Languages.{language_view}
use Rattle.kp_symbolic.specs.View.{clauses_view}
use Rattle.kp_literals.specs.Equations.{equation_view}
use Rattle.kp_case_laws.specs.Narrowings.{put_clause}
use Rattle.kp_unify.proofs.refined.put_in_clauses.Given as goal

abbrev pub invariant-loop-clause : goal.invariant-loop-clause
invariant-loop-clause l =
    let put = put_clause (language_view l.language) (equation_view l.equation) in
    clauses_view l.found.items ++ flat_map put (clauses_view (drop l.clause-index l.clauses)) ≡ flat_map put (clauses_view l.clauses)
