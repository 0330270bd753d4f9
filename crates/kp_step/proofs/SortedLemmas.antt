-- A sorted part has the sorts of its places in its clauses.
use Rattle.std.proofs.Common.{List, [], ◌∷◌}
use Rattle.std.specs.List.{AllByRecursion, Contains}
use Rattle.kp_kore.specs.Parts.{SortedName}
use Rattle.kp_kore.specs.Signature.{KoreSignature}
use Rattle.kp_kore.proofs.ListLemmas.{all_map, all_append}
use Rattle.kp_symbolic.specs.States.{atom_variables, clause_variables, Literal, SymbolicState}
use Rattle.kp_symbolic.specs.WellFormed.{IsWellSortedAtom, AreAtHand}
use Rattle.kp_symbolic_laws.specs.Runs.{HasOneSortEach, IsSortedLiteral, IsSortedState}
use Rattle.kp_satisfiability.specs.Read.{HasSortedClauses}

at_hand : (g : KoreSignature) (hand : List SortedName) (c : List Literal) → AllByRecursion (IsSortedLiteral g hand) c → AreAtHand (clause_variables c) hand
at_hand g hand [] h = tt
at_hand g hand (l ∷ c) h = all_append (Contains hand) (atom_variables l.atom) (clause_variables c) h.0.1 (at_hand g hand c h.1)

pub has_sorted : (g : KoreSignature) (s : SymbolicState) → AllByRecursion (AllByRecursion (IsSortedLiteral g s.variables)) s.clauses → HasOneSortEach s.variables → HasSortedClauses g s
has_sorted g s literals one = record {
  literals = all_map (AllByRecursion (IsSortedLiteral g s.variables)) (AllByRecursion (λ l. IsWellSortedAtom g l.atom)) s.clauses
      (λ c h. all_map (IsSortedLiteral g s.variables) (λ l. IsWellSortedAtom g l.atom) c (λ l i. i.0) h) literals;
  clauses_at_hand = all_map (AllByRecursion (IsSortedLiteral g s.variables)) (λ c. AreAtHand (clause_variables c) s.variables) s.clauses (λ c h. at_hand g s.variables c h) literals;
  one_sort_each = one;
}

pub sorted_clauses : (g : KoreSignature) (s : SymbolicState) → IsSortedState g s → HasSortedClauses g s
sorted_clauses g s k = has_sorted g s k.literals k.one_sort_each
