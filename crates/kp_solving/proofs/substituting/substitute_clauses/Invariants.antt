use Rattle.std.proofs.Common.{◌≡◌, ◌++◌, map}
use Rattle.kp_kore.specs.View.{sort_view}
use Rattle.kp_symbolic.specs.Languages.{language_view}
use Rattle.kp_symbolic.specs.View.{clauses_view, replaced_view}
use Rattle.kp_clause_substitution.specs.Substituted.{substituted_clauses}
use Rattle.kp_solving.proofs.SubstitutedStates.{substituted_from}
use Rattle.kp_solving.proofs.substituting.substitute_clauses.Given as goal

abbrev pub invariant-loop-i : goal.invariant-loop-i
invariant-loop-i l =
    clauses_view l.found.items ++ substituted_from (language_view l.language) (sort_view l.sort) (map replaced_view l.by) l.so_far l.i l.clauses
    ≡ substituted_clauses (language_view l.language) (sort_view l.sort) (map replaced_view l.by) 0 (clauses_view l.clauses)
