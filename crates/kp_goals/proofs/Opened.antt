-- A clause with terms in the place of variables says what it says where these stand for the terms' instances, whatever is written
-- for it.
use Rattle.std.proofs.Common.{◌≡◌, refl, ◌∙◌, subst, Bool, true, false, not, ◌&&◌, List, [], ◌∷◌, ◌++◌, Some, None, ◌↔◌}
use Rattle.std.specs.Prelude.{is_some}
use Rattle.std.specs.List.{AllByRecursion, filter, flat_map}
use Rattle.std.specs.Str.{bytes_eq}
use Rattle.std.proofs.lemmas.List.{append_assoc}
use Rattle.kp_kore.specs.Syntax.{Text, KoreSort, KorePattern}
use Rattle.kp_kore.specs.Parts.{SortedName, free_variables}
use Rattle.kp_kore.specs.Signature.{KoreSignature}
use Rattle.kp_kore.specs.Value.{HasSort, head_of}
use Rattle.kp_kore.specs.Instance.{Valuation, GivesSorts, AgreesOn, is_named, IsTrueUnder}
use Rattle.kp_kore.proofs.TruthLemmas.{same_truth}
use Rattle.kp_symbolic.specs.Terms.{SymbolicTerm, term_instance, term_variables, Replaced, replacement_for, under_replaced}
use Rattle.kp_symbolic.specs.Formulas.{NoneHold}
use Rattle.kp_symbolic.specs.States.{Atom, same, has_head, quoted, IsAtomTrue, PassesHead, Literal, IsLiteralTrue, IsClauseTrue, AreTrue, AreGiven, variables_for, atom_variables}
use Rattle.kp_symbolic.specs.WellFormed.{IsWellSorted, IsWellSortedAtom, AreWellPlaced}
use Rattle.kp_symbolic.specs.Folding.{term_for, replaced}
use Rattle.kp_symbolic.specs.Opening.{literal_fact, opened_same, opened_test}
use Rattle.kp_symbolic.specs.Clauses.{distributed}
use Rattle.kp_symbolic.specs.Solving.{is_single}
use Rattle.kp_symbolic.proofs.Distribution.{all_first, all_second}
use Rattle.kp_symbolic.proofs.Folded.{for_instance, for_variables}
use Rattle.kp_symbolic.proofs.SeenLemmas.{Says}
use Rattle.kp_symbolic.proofs.CallOpening.{opened_same_says}
use Rattle.kp_symbolic.proofs.Replacing.{replaced_variables, replaced_is}
use Rattle.kp_symbolic.proofs.WellSorted.{term_sorted, term_given, sorted_written}
use Rattle.kp_symbolic.proofs.SortedFolding.{replaced_sorted}
use Rattle.kp_symbolic.proofs.HeadQuestions.{test_says}
use Rattle.kp_symbolic.proofs.Leaf.{formula_says, then_says, named_here}
use Rattle.kp_clause_substitution.specs.Replacing.{with_terms, beside, opened_under, all_opened_under, clause_under}
use Rattle.kp_clause_substitution.proofs.StateLemmas.{filtered_for}

abbrev Placed : KoreSignature → List Replaced → SortedName → Type 0
Placed g qs x = IsWellSorted g x.sort (term_for x (replacement_for qs x.name))

abbrev Sorted : KoreSignature → List Replaced → Valuation → SortedName → Type 0
Sorted g qs v x = GivesSorts g v (variables_for x (replacement_for qs x.name))

-- an atom with the sorts of its places, and terms of the variables' sorts, all given
pub record IsOpenable (g : KoreSignature) (v : Valuation) (qs : List Replaced) (a : Atom) : Type 0 where
  pub sorted : IsWellSortedAtom g a
  pub placed : AreWellPlaced g qs (atom_variables a)
  pub given : AreGiven g qs v (atom_variables a)

-- ---- equalities

record IsReplacedTerm (g : KoreSignature) (v : Valuation) (qs : List Replaced) (s : KoreSort) (t : SymbolicTerm) : Type 0 where
  pub sorted : IsWellSorted g s (replaced g qs t)
  pub given : GivesSorts g v (term_variables (replaced g qs t))
  is : term_instance g v (replaced g qs t) ≡ term_instance g (under_replaced g qs v) t

replaced_term : (g : KoreSignature) (v : Valuation) (qs : List Replaced) (s : KoreSort) (t : SymbolicTerm) → IsWellSorted g s t → AllByRecursion (Placed g qs) (term_variables t) → AllByRecursion (Sorted g qs v) (term_variables t) → IsReplacedTerm g v qs s t
replaced_term g v qs s t w p h = record {
  sorted = replaced_sorted g qs s t w p;
  given = replaced_variables g qs (λ y. HasSort g y.sort (v y.name)) t (sorted_written g s t w) h;
  is = replaced_is g qs v t (sorted_written g s t w) h;
}

same_replaced : (g : KoreSignature) (v : Valuation) (qs : List Replaced) (alone b : Bool) (s : KoreSort) (t u : SymbolicTerm) → IsReplacedTerm g v qs s t → IsReplacedTerm g v qs s u →
    Says g v b (opened_same g alone b s (replaced g qs t) (replaced g qs u)) (term_instance g (under_replaced g qs v) t ≡ term_instance g (under_replaced g qs v) u)
same_replaced g v qs alone b s t u i j =
    let x = replaced g qs t in
    let y = replaced g qs u in
    subst (λ z. Says g v b (opened_same g alone b s x y) (z ≡ term_instance g (under_replaced g qs v) u)) i.is
    (subst (λ z. Says g v b (opened_same g alone b s x y) (term_instance g v x ≡ z)) j.is
    (opened_same_says g v alone b s x y i.given j.given (term_given g v s x i.sorted i.given) (term_given g v s y j.sorted j.given) (term_sorted g v s x i.sorted i.given) (term_sorted g v s y j.sorted j.given)))

-- ---- quoted predicates

beside_is : (g : KoreSignature) (v : Valuation) (qs rs tail : List Replaced) (y : Text) →
    ((t : SymbolicTerm) → replacement_for rs y ≡ Some t → term_instance g v (replaced g qs t) ≡ term_instance g (under_replaced g qs v) t) →
    (replacement_for rs y ≡ None → replacement_for tail y ≡ replacement_for qs y) →
    under_replaced g (with_terms g qs rs ++ tail) v y ≡ under_replaced g rs (under_replaced g qs v) y
beside_is g v qs [] tail y k n = rw (n refl) refl
beside_is g v qs (r ∷ rs) tail y k n = by (bytes_eq r.name y) refl (beside_is g v qs rs tail y)
  where
    by : (b : Bool) → bytes_eq r.name y ≡ b → (((t : SymbolicTerm) → replacement_for rs y ≡ Some t → term_instance g v (replaced g qs t) ≡ term_instance g (under_replaced g qs v) t) → (replacement_for rs y ≡ None → replacement_for tail y ≡ replacement_for qs y)
        → under_replaced g (with_terms g qs rs ++ tail) v y ≡ under_replaced g rs (under_replaced g qs v) y)
        → under_replaced g (with_terms g qs (r ∷ rs) ++ tail) v y ≡ under_replaced g (r ∷ rs) (under_replaced g qs v) y
    by true q i = rw q (k r.term (rw q refl))
    by false q i = rw q (i (λ t z. k t (rw q z)) (λ z. n (rw q z)))

-- what is needed of a free variable of a quoted predicate
record IsReadyFor (g : KoreSignature) (qs : List Replaced) (v : Valuation) (p : KorePattern) (rs : List Replaced) (x : SortedName) : Type 0 where
  named : is_named x.name (free_variables p) ≡ true
  pub sorted : IsWellSorted g x.sort (term_for x (replacement_for rs x.name))
  pub given : AllByRecursion (Sorted g qs v) (variables_for x (replacement_for rs x.name))

abbrev is_new : KorePattern → List Replaced → Text → Bool
is_new p rs y = is_named y (free_variables p) && not (is_some (replacement_for rs y))

one_agrees : (g : KoreSignature) (v : Valuation) (qs : List Replaced) (p : KorePattern) (rs : List Replaced) (x : SortedName) → IsReadyFor g qs v p rs x → under_replaced g (beside g qs p rs) v x.name ≡ under_replaced g rs (under_replaced g qs v) x.name
one_agrees g v qs p rs x h = beside_is g v qs rs (filter (λ q. is_new p rs q.name) qs) x.name
    (λ t q. replaced_is g qs v t
    (sorted_written g x.sort t (subst (λ o. IsWellSorted g x.sort (term_for x o)) q h.sorted))
    (subst (λ o. AllByRecursion (Sorted g qs v) (variables_for x o)) q h.given))
    (λ q. filtered_for (is_new p rs) qs x.name (rw (h.named, q) refl))

all_agree : (g : KoreSignature) (v : Valuation) (qs : List Replaced) (p : KorePattern) (rs : List Replaced) (xs : List SortedName) → AllByRecursion (IsReadyFor g qs v p rs) xs → AgreesOn xs (under_replaced g rs (under_replaced g qs v)) (under_replaced g (beside g qs p rs) v)
all_agree g v qs p rs [] h = tt
all_agree g v qs p rs (x ∷ xs) h = (one_agrees g v qs p rs x h.0, all_agree g v qs p rs xs h.1)

all_ready : (g : KoreSignature) (v : Valuation) (qs : List Replaced) (p : KorePattern) (rs : List Replaced) (before xs : List SortedName) → before ++ xs ≡ free_variables p →
    AllByRecursion (λ x. IsWellSorted g x.sort (term_for x (replacement_for rs x.name))) xs → AllByRecursion (Sorted g qs v) (flat_map (λ x. variables_for x (replacement_for rs x.name)) xs) → AllByRecursion (IsReadyFor g qs v p rs) xs
all_ready g v qs p rs before [] e w h = tt
all_ready g v qs p rs before (x ∷ xs) e w h =
    let others = flat_map (λ x. variables_for x (replacement_for rs x.name)) xs in (
      record {
        named = subst (λ ys. is_named x.name ys ≡ true) e (named_here x before xs);
        sorted = w.0;
        given = all_first (Sorted g qs v) (variables_for x (replacement_for rs x.name)) others h;
      },
      all_ready g v qs p rs (before ++ x ∷ []) xs (append_assoc before (x ∷ []) xs ∙ e) w.1 (all_second (Sorted g qs v) (variables_for x (replacement_for rs x.name)) others h),
    )

by_truth : (g : KoreSignature) (v w : Valuation) (b : Bool) (p : KorePattern) (rs bs : List Replaced) → AgreesOn (free_variables p) (under_replaced g rs w) (under_replaced g bs v) → Says g v b (literal_fact b (quoted p bs)) (IsTrueUnder g (under_replaced g rs w) p)
by_truth g v w true p rs bs a = let k = same_truth g p (under_replaced g rs w) (under_replaced g bs v) a in (k.1, k.0)
by_truth g v w false p rs bs a = let k = same_truth g p (under_replaced g rs w) (under_replaced g bs v) a in ((λ n h. n (k.0 h)), (λ n h. n (k.1 h)))

-- ---- atoms

atom_opened : (g : KoreSignature) (v : Valuation) (qs : List Replaced) (alone b : Bool) (a : Atom) → IsOpenable g v qs a → Says g v b (opened_under g qs alone b a) (IsAtomTrue g (under_replaced g qs v) a)
atom_opened g v qs alone b (same s t u) h = same_replaced g v qs alone b s t u
    (replaced_term g v qs s t h.sorted.0 (all_first (Placed g qs) (term_variables t) (term_variables u) h.placed) (all_first (Sorted g qs v) (term_variables t) (term_variables u) h.given))
    (replaced_term g v qs s u h.sorted.1 (all_second (Placed g qs) (term_variables t) (term_variables u) h.placed) (all_second (Sorted g qs v) (term_variables t) (term_variables u) h.given))
atom_opened g v qs alone b (has_head x test) h =
    let t = term_for x (replacement_for qs x.name) in
    let f = opened_test g b test (literal_fact b (has_head x test)) t in
    subst (λ u. Says g v b f (¬ ¬ PassesHead g test (head_of u))) (for_instance g qs v x.name x.sort (replacement_for qs x.name) refl)
    (test_says g v b test (literal_fact b (has_head x test)) x.sort t h.placed.0 (for_variables (λ y. HasSort g y.sort (v y.name)) x (replacement_for qs x.name) h.given.0))
atom_opened g v qs alone b (quoted p rs) h = by_truth g v (under_replaced g qs v) b p rs (beside g qs p rs) (all_agree g v qs p rs (free_variables p) (all_ready g v qs p rs [] (free_variables p) refl h.sorted h.given))

-- ---- clauses

abbrev pub AreOpenable : KoreSignature → Valuation → List Replaced → List Literal → Type 0
AreOpenable g v qs = AllByRecursion (λ l. IsOpenable g v qs l.atom)

none_opened : (g : KoreSignature) (v : Valuation) (qs : List Replaced) (alone : Bool) (c : List Literal) → AreOpenable g v qs c → NoneHold (IsLiteralTrue g v) (all_opened_under g qs alone c) ↔ AllByRecursion (λ l. ¬ IsLiteralTrue g (under_replaced g qs v) l) c
none_opened g v qs alone [] h = ((λ a. a), (λ a. a))
none_opened g v qs alone (l ∷ c) h =
    let i = atom_opened g v qs alone l.holds l.atom h.0 in
    let j = none_opened g v qs alone c h.1 in
    ((λ a. ((λ t. a.0 (i.1 t)), j.0 a.1)), (λ a. ((λ t. a.0 (i.0 t)), j.1 a.1)))

pub clause_opened : (g : KoreSignature) (v : Valuation) (qs : List Replaced) (c : List Literal) → AreOpenable g v qs c → AreTrue g v (distributed (clause_under g qs c)) ↔ IsClauseTrue g (under_replaced g qs v) c
clause_opened g v qs c h =
    let i = none_opened g v qs (is_single c) c h in
    then_says (formula_says g v (clause_under g qs c)) ((λ n f. n (i.1 f)), (λ n f. n (i.0 f)))
