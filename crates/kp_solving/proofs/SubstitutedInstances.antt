-- A state with terms in the place of variables has the instances that it has where the variables stand for those of the terms.
use Rattle.std.proofs.Common.{◌≡◌, refl, inl, subst, List, [], ◌∷◌, Option, Some, None}
use Rattle.std.specs.List.{AllByRecursion}
use Rattle.std.proofs.lemmas.List.Elements.{All-from_recursion, All-contains}
use Rattle.kp_kore.specs.Syntax.{KoreSort}
use Rattle.kp_kore.specs.Parts.{SortedName, free_variables}
use Rattle.kp_kore.specs.Signature.{KoreSignature}
use Rattle.kp_kore.specs.Value.{HasSort}
use Rattle.kp_kore.specs.Instance.{Valuation, GivesSorts}
use Rattle.kp_symbolic.specs.Terms.{SymbolicTerm, Replaced, replacement_for, under_replaced}
use Rattle.kp_symbolic.specs.States.{one_head, head_of_sort, Atom, same, has_head, quoted, variables_for, atom_variables, AreGiven, Literal, SymbolicState}
use Rattle.kp_symbolic.specs.WellFormed.{IsWellSorted, IsWellSortedAtom, AreWellPlaced, AreAtHand}
use Rattle.kp_symbolic.specs.Folding.{term_for}
use Rattle.kp_symbolic.specs.Writing.{IsSaid}
use Rattle.kp_symbolic.proofs.WellSorted.{term_sorted}
use Rattle.kp_symbolic.proofs.Written.{equality_is_said}
use Rattle.kp_symbolic_laws.specs.Runs.{IsSortedLiteral, IsWrittenAtom}
use Rattle.kp_symbolic_laws.proofs.HeadTests.{constructor_said, sort_said}
use Rattle.kp_symbolic_laws.proofs.Step.{at_hand_given}
use Rattle.kp_symbolic_laws.proofs.WrittenUnder.{IsInj, written_says}
use Rattle.kp_symbolic_laws.proofs.WrittenStates.{stand_given}
use Rattle.kp_clause_substitution.specs.Substituted.{IsReady}
use Rattle.kp_clause_substitution.proofs.StateLemmas.{substituted_instance}
use Rattle.kp_solving.specs.Placing.{CanBePlaced, HasWrittenLiterals, HasInstancesUnder}

-- ---- what holds of the variables at hand

abbrev Placed : KoreSignature → List Replaced → SortedName → Type 0
Placed g qs x = IsWellSorted g x.sort (term_for x (replacement_for qs x.name))

abbrev Sorted : KoreSignature → List Replaced → Valuation → SortedName → Type 0
Sorted g qs v x = GivesSorts g v (variables_for x (replacement_for qs x.name))

holds_at_hand : (P : SortedName → Type 0) (hand xs : List SortedName) → AllByRecursion P hand → AreAtHand xs hand → AllByRecursion P xs
holds_at_hand P hand [] h a = tt
holds_at_hand P hand (x ∷ xs) h a = (All-contains P hand x (All-from_recursion P hand h) a.0, holds_at_hand P hand xs h a.1)

-- a variable stands for a value of its sort
value_sorted : (g : KoreSignature) (v : Valuation) (qs : List Replaced) (x : SortedName) → Placed g qs x → Sorted g qs v x → HasSort g x.sort (under_replaced g qs v x.name)
value_sorted g v qs x p h = by (replacement_for qs x.name) refl
  where
    by : (o : Option SymbolicTerm) → replacement_for qs x.name ≡ o → HasSort g x.sort (under_replaced g qs v x.name)
    by (Some t) e = rw e (term_sorted g v x.sort t (subst (λ o. IsWellSorted g x.sort (term_for x o)) e p) (subst (λ o. GivesSorts g v (variables_for x o)) e h))
    by None e = rw e (subst (λ o. GivesSorts g v (variables_for x o)) e h).0

values_sorted : (g : KoreSignature) (v : Valuation) (qs : List Replaced) (xs : List SortedName) → AllByRecursion (Placed g qs) xs → AllByRecursion (Sorted g qs v) xs → GivesSorts g (under_replaced g qs v) xs
values_sorted g v qs [] p h = tt
values_sorted g v qs (x ∷ xs) p h = (value_sorted g v qs x p.0 h.0, values_sorted g v qs xs p.1 h.1)

-- ---- literals

said : (g : KoreSignature) (v : Valuation) (hand : List SortedName) (sort : KoreSort) (a : Atom) → IsInj g → GivesSorts g v hand → IsWellSortedAtom g a → AreAtHand (atom_variables a) hand → IsWrittenAtom g a → IsSaid g v sort a
said g v hand sort (same s t u) i h w a o = equality_is_said g v sort s t u w.0 w.1 (inl i) (inl i)
said g v hand sort (has_head x (one_head c)) i h w a o = constructor_said g v sort x c (at_hand_given g v hand (x ∷ []) h a).0 (inl i) o.0 o.1
said g v hand sort (has_head x (head_of_sort s)) i h w a o = sort_said g v sort s x (at_hand_given g v hand (x ∷ []) h a).0 (inl i)
said g v hand sort (quoted p rs) i h w a o = written_says g rs v p (inl i) (record { predicate = o.0.0; sound = o.0.1; placed = w; given = stand_given g v hand rs (free_variables p) h a }) o.1

literals_ready : (g : KoreSignature) (v : Valuation) (hand : List SortedName) (sort : KoreSort) (qs : List Replaced) (c : List Literal) → IsInj g → AreWellPlaced g qs hand → AreGiven g qs v hand → AllByRecursion (IsSortedLiteral g hand) c → AllByRecursion (λ l. IsWrittenAtom g l.atom) c →
    AllByRecursion (λ l. IsReady g v sort qs l.atom) c
literals_ready g v hand sort qs [] i p h w o = tt
literals_ready g v hand sort qs (l ∷ c) i p h w o = (
  record {
    sorted = w.0.0;
    placed = holds_at_hand (Placed g qs) hand (atom_variables l.atom) p w.0.1;
    given = holds_at_hand (Sorted g qs v) hand (atom_variables l.atom) h w.0.1;
    said = said g (under_replaced g qs v) hand sort l.atom i (values_sorted g v qs hand p h) w.0.0 w.0.1 o.0;
  },
  literals_ready g v hand sort qs c i p h w.1 o.1,
)

clauses_ready : (g : KoreSignature) (v : Valuation) (hand : List SortedName) (sort : KoreSort) (qs : List Replaced) (cs : List (List Literal)) → IsInj g → AreWellPlaced g qs hand → AreGiven g qs v hand → AllByRecursion (AllByRecursion (IsSortedLiteral g hand)) cs → AllByRecursion (AllByRecursion (λ l. IsWrittenAtom g l.atom)) cs →
    AllByRecursion (AllByRecursion (λ l. IsReady g v sort qs l.atom)) cs
clauses_ready g v hand sort qs [] i p h w o = tt
clauses_ready g v hand sort qs (c ∷ cs) i p h w o = (literals_ready g v hand sort qs c i p h w.0 o.0, clauses_ready g v hand sort qs cs i p h w.1 o.1)

-- ---- states

pub sorted_instance : (g : KoreSignature) (v : Valuation) (qs : List Replaced) (s : SymbolicState) → IsInj g → CanBePlaced g qs s → HasWrittenLiterals g s → AreGiven g qs v s.variables → HasInstancesUnder g v qs s
sorted_instance g v qs s i can o h = λ u. substituted_instance g v qs s u (clauses_ready g v s.variables s.sort qs s.clauses i can.placed h can.sorted.literals o) can.sorted.term
    (holds_at_hand (Sorted g qs v) s.variables _ h can.sorted.term_at_hand)
