use Rattle.std.proofs.Common.{◌≡◌, ◌++◌, ◌≤◌, map, drop}
use Rattle.kp_compile.specs.Parts.{seen}
use Rattle.kp_symbolic.specs.Clauses.{clauses_of_conjuncts}
use Rattle.kp_symbolic.specs.Languages.{language_view}
use Rattle.kp_symbolic.specs.View.{replaced_view, clauses_view}
use Rattle.kp_clauses.proofs.conjunct.clauses_of_all.Given as goal

abbrev pub invariant-loop-i : goal.invariant-loop-i
invariant-loop-i l =
    (clauses_view l.found.items ++ clauses_of_conjuncts (language_view l.language) (map replaced_view l.replaced) l.so_far (seen (drop l.i l.predicates))
    ≡ clauses_of_conjuncts (language_view l.language) (map replaced_view l.replaced) 0 (seen l.predicates))
    × (l.so_far ≤ 16385)
