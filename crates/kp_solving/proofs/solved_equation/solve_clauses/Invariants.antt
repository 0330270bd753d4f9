use Rattle.std.proofs.Common.{◌≡◌, ◌++◌, Some}
use Rattle.kp_kore.specs.View.{sort_view}
use Rattle.kp_symbolic.specs.Solving.{solved_clauses}
use Rattle.kp_symbolic.specs.Languages.{language_view}
use Rattle.kp_symbolic.specs.View.{clauses_view}
use Rattle.kp_literals.specs.Equations.{equation_view}
use Rattle.kp_symbolic_laws.specs.Runs.{OfKeptWhole}
use Rattle.kp_symbolic_laws.specs.Kept.{CanBeWrittenAt}
use Rattle.kp_solving.proofs.RoomLemmas.{OfKeptFrom}
use Rattle.kp_solving.proofs.RoundLemmas.{solved_from}
use Rattle.kp_solving.proofs.solved_equation.solve_clauses.Given as goal

abbrev pub invariant-loop-i : goal.invariant-loop-i
invariant-loop-i l =
    (clauses_view l.found.items ++ solved_from (language_view l.language) (sort_view l.sort) (equation_view l.equation) l.so_far l.place l.i l.clauses
    ≡ solved_clauses (language_view l.language) (sort_view l.sort) (equation_view l.equation) 0 (Some l.place) (clauses_view l.clauses))
    × (OfKeptFrom (language_view l.language) (sort_view l.sort) (equation_view l.equation) (CanBeWrittenAt (language_view l.language) (sort_view l.sort)) l.so_far l.place l.i l.clauses
    → OfKeptWhole (language_view l.language) (sort_view l.sort) (equation_view l.equation) (CanBeWrittenAt (language_view l.language) (sort_view l.sort)) 0 (Some l.place) (clauses_view l.clauses))
