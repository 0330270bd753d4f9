-- Over a well-formed state, values of the variables at hand are given to all literals.
use Rattle.std.proofs.Common.{List, [], ◌∷◌}
use Rattle.std.specs.List.{AllByRecursion}
use Rattle.kp_kore.specs.Parts.{SortedName}
use Rattle.kp_kore.specs.Signature.{KoreSignature}
use Rattle.kp_kore.specs.Value.{HasSort}
use Rattle.kp_kore.specs.Instance.{Valuation, GivesSorts}
use Rattle.kp_kore.proofs.TurnLemmas.{of_member}
use Rattle.kp_symbolic.specs.Terms.{term_variables}
use Rattle.kp_symbolic.specs.States.{Atom, same, has_head, quoted, Literal, atom_variables, clause_variables, SymbolicState}
use Rattle.kp_symbolic.specs.WellFormed.{IsWellSortedAtom, IsGivenAtom, AreGivenLiterals, AreAtHand, IsWellFormed}
use Rattle.kp_symbolic.proofs.Distribution.{all_first, all_second}
use Rattle.kp_symbolic.proofs.WellSorted.{term_sorted, term_given}
use Rattle.kp_satisfiability.specs.Read.{HasSortedClauses}

pub gives_at_hand : (g : KoreSignature) (v : Valuation) (hand xs : List SortedName) → AreAtHand xs hand → GivesSorts g v hand → GivesSorts g v xs
gives_at_hand g v hand [] h gives = tt
gives_at_hand g v hand (x ∷ xs) h gives = (of_member (λ (y : SortedName). HasSort g y.sort (v y.name)) hand x gives h.0, gives_at_hand g v hand xs h.1 gives)

atom_given : (g : KoreSignature) (v : Valuation) (a : Atom) → IsWellSortedAtom g a → GivesSorts g v (atom_variables a) → IsGivenAtom g v a
atom_given g v (same s t u) w h =
    let left : GivesSorts g v (term_variables t) = all_first (λ x. HasSort g x.sort (v x.name)) (term_variables t) (term_variables u) h in
    let right : GivesSorts g v (term_variables u) = all_second (λ x. HasSort g x.sort (v x.name)) (term_variables t) (term_variables u) h in
    (left, right, term_given g v s t w.0 left, term_given g v s u w.1 right, term_sorted g v s t w.0 left, term_sorted g v s u w.1 right)
atom_given g v (has_head x test) w h = h.0
atom_given g v (quoted p rs) w h = tt

clause_given : (g : KoreSignature) (v : Valuation) (c : List Literal) → AllByRecursion (λ l. IsWellSortedAtom g l.atom) c → GivesSorts g v (clause_variables c) → AllByRecursion (λ l. IsGivenAtom g v l.atom) c
clause_given g v [] w h = tt
clause_given g v (l ∷ c) w h = (
  atom_given g v l.atom w.0 (all_first (λ x. HasSort g x.sort (v x.name)) (atom_variables l.atom) (clause_variables c) h),
  clause_given g v c w.1 (all_second (λ x. HasSort g x.sort (v x.name)) (atom_variables l.atom) (clause_variables c) h),
)

clauses_given : (g : KoreSignature) (v : Valuation) (hand : List SortedName) (cs : List (List Literal)) → AllByRecursion (AllByRecursion (λ l. IsWellSortedAtom g l.atom)) cs → AllByRecursion (λ c. AreAtHand (clause_variables c) hand) cs → GivesSorts g v hand → AreGivenLiterals g v cs
clauses_given g v hand [] w at gives = tt
clauses_given g v hand (c ∷ cs) w at gives = (clause_given g v c w.0 (gives_at_hand g v hand (clause_variables c) at.0 gives), clauses_given g v hand cs w.1 at.1 gives)

pub literals_given : (g : KoreSignature) (s : SymbolicState) (v : Valuation) → HasSortedClauses g s → GivesSorts g v s.variables → AreGivenLiterals g v s.clauses
literals_given g s v w gives = clauses_given g v s.variables s.clauses w.literals w.clauses_at_hand gives

-- ---- for callers

pub well_formed_sorted : (g : KoreSignature) (s : SymbolicState) → IsWellFormed g s → HasSortedClauses g s
well_formed_sorted g s w = record { literals = w.literals; clauses_at_hand = w.clauses_at_hand; one_sort_each = w.one_sort_each }
