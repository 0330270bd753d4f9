use Rattle.std.proofs.Common.{◌≡◌, ◌++◌, map, drop}
use Rattle.std.specs.List.{AllByRecursion}
use Rattle.kp_kore.specs.View.{view, sort_view}
use Rattle.kp_symbolic.specs.Writing.{written_clause}
use Rattle.kp_symbolic_laws.specs.Kept.{CanBeWrittenAt}
use Rattle.kp_symbolic.specs.Languages.{language_view}
use Rattle.kp_symbolic.specs.View.{clause_view}
use Rattle.kp_step.proofs.opposite.clauses_out.Given as goal

abbrev pub invariant-loop-clause : goal.invariant-loop-clause
invariant-loop-clause l =
    (map view l.found.items ++ map (written_clause (language_view l.language) (sort_view l.sort)) (map clause_view (drop l.clause-index l.clauses)) ≡ map (written_clause (language_view l.language) (sort_view l.sort)) (map clause_view l.clauses))
    × (AllByRecursion (λ c. CanBeWrittenAt (language_view l.language) (sort_view l.sort) (clause_view c)) (drop l.clause-index l.clauses) → AllByRecursion (λ c. CanBeWrittenAt (language_view l.language) (sort_view l.sort) (clause_view c)) l.clauses)
