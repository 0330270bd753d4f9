-- A state with terms in the place of variables has the instances that it has where the variables stand for those of the terms.
use Rattle.std.proofs.Common.{◌≡◌, refl, sym, ◌∙◌, ap, ap₂, subst, ℕ, ◌+◌, Bool, true, false, not, ◌&&◌, ◌||◌, cond, List, [], ◌∷◌, ◌++◌, Option, Some, None, ◌↔◌}
use Rattle.std.specs.Prelude.{if◌then◌else◌, is_some}
use Rattle.std.specs.List.{AllByRecursion, filter, flat_map, list_any}
use Rattle.std.specs.Str.{bytes_eq}
use Rattle.std.proofs.lemmas.Slice.Eq.{bytes_eq-Decides}
use Rattle.std.proofs.lemmas.List.{append_assoc}
use Rattle.kp_kore.specs.Syntax.{Text, KoreSort, KorePattern}
use Rattle.kp_kore.specs.Parts.{SortedName, free_variables}
use Rattle.kp_kore.specs.Hooks.{addition, whole_arithmetic}
use Rattle.kp_kore.specs.Signature.{KoreSignature, meaning_of}
use Rattle.kp_kore.specs.Value.{Value, whole, next_value, HasSort, head_of}
use Rattle.kp_kore.specs.Forms.{two}
use Rattle.kp_kore.specs.Interpretation.{interpreted}
use Rattle.kp_kore.specs.Instance.{Valuation, GivesSorts, AgreesOn, applied, is_named, IsTrueUnder}
use Rattle.kp_kore.proofs.TruthLemmas.{same_truth}
use Rattle.kp_symbolic.specs.Terms.{SymbolicTerm, unknown, offset, known, headed, SymbolicTerms, no_terms, next_term, term_instance, term_instances, term_variables, all_term_variables, Replaced, replacement_for, under_replaced}
use Rattle.kp_symbolic.specs.Formulas.{NoneHold}
use Rattle.kp_symbolic.specs.States.{Atom, same, has_head, quoted, IsAtomTrue, PassesHead, Literal, IsLiteralTrue, IsClauseTrue, AreTrue, AreGiven, variables_for, atom_variables, clause_variables, SymbolicState, IsStateInstance}
use Rattle.kp_symbolic.specs.WellFormed.{IsWellSorted}
use Rattle.kp_symbolic.specs.Folding.{term_for, replaced}
use Rattle.kp_symbolic.specs.Opening.{literal_fact, opened_same, opened_test, quotation}
use Rattle.kp_symbolic.specs.Clauses.{distributed, is_too_large}
use Rattle.kp_symbolic.specs.Writing.{IsSaid, written_clause}
use Rattle.kp_symbolic.specs.Solving.{is_single, literals_in}
use Rattle.kp_symbolic.proofs.Distribution.{all_first, all_second}
use Rattle.kp_symbolic.proofs.Folded.{for_instance, for_variables}
use Rattle.kp_symbolic.proofs.SeenLemmas.{Says}
use Rattle.kp_symbolic.proofs.CallOpening.{opened_same_says}
use Rattle.kp_symbolic.proofs.Replacing.{replaced_variables, replaced_is}
use Rattle.kp_symbolic.proofs.WellSorted.{term_sorted, term_given, sorted_written}
use Rattle.kp_symbolic.proofs.SortedFolding.{replaced_sorted}
use Rattle.kp_symbolic.proofs.HeadQuestions.{test_says}
use Rattle.kp_symbolic.proofs.Leaf.{quotation_is, formula_says, one_literal, once_says, then_says, named_here}
use Rattle.kp_symbolic.proofs.Written.{clause_said}
use Rattle.kp_symbolic.proofs.Solved.{two_lists}
use Rattle.kp_clause_substitution.specs.Replacing.{with_terms, beside, opened_under, all_opened_under, clause_under}
use Rattle.kp_clause_substitution.specs.Substituted.{substituted_clause, substituted_clauses, substituted, IsReady}

abbrev Placed : KoreSignature → List Replaced → SortedName → Type 0
Placed g qs x = IsWellSorted g x.sort (term_for x (replacement_for qs x.name))

abbrev Sorted : KoreSignature → List Replaced → Valuation → SortedName → Type 0
Sorted g qs v x = GivesSorts g v (variables_for x (replacement_for qs x.name))

-- ---- equalities

record IsReplacedTerm (g : KoreSignature) (v : Valuation) (qs : List Replaced) (s : KoreSort) (t : SymbolicTerm) : Type 0 where
  sorted : IsWellSorted g s (replaced g qs t)
  given : GivesSorts g v (term_variables (replaced g qs t))
  is : term_instance g v (replaced g qs t) ≡ term_instance g (under_replaced g qs v) t

replaced_term : (g : KoreSignature) (v : Valuation) (qs : List Replaced) (s : KoreSort) (t : SymbolicTerm) → IsWellSorted g s t → AllByRecursion (Placed g qs) (term_variables t) → AllByRecursion (Sorted g qs v) (term_variables t) → IsReplacedTerm g v qs s t
replaced_term g v qs s t w p h = record {
  sorted = replaced_sorted g qs s t w p;
  given = replaced_variables g qs (λ y. HasSort g y.sort (v y.name)) t (sorted_written g s t w) h;
  is = replaced_is g qs v t (sorted_written g s t w) h;
}

same_replaced : (g : KoreSignature) (v : Valuation) (qs : List Replaced) (alone b : Bool) (s : KoreSort) (t u : SymbolicTerm) → IsReplacedTerm g v qs s t → IsReplacedTerm g v qs s u →
    Says g v b (opened_same g alone b s (replaced g qs t) (replaced g qs u)) (term_instance g (under_replaced g qs v) t ≡ term_instance g (under_replaced g qs v) u)
same_replaced g v qs alone b s t u i j =
    let x = replaced g qs t in
    let y = replaced g qs u in
    subst (λ z. Says g v b (opened_same g alone b s x y) (z ≡ term_instance g (under_replaced g qs v) u)) i.is
    (subst (λ z. Says g v b (opened_same g alone b s x y) (term_instance g v x ≡ z)) j.is
    (opened_same_says g v alone b s x y i.given j.given (term_given g v s x i.sorted i.given) (term_given g v s y j.sorted j.given) (term_sorted g v s x i.sorted i.given) (term_sorted g v s y j.sorted j.given)))

-- ---- quoted predicates

beside_is : (g : KoreSignature) (v : Valuation) (qs rs tail : List Replaced) (y : Text) →
    ((t : SymbolicTerm) → replacement_for rs y ≡ Some t → term_instance g v (replaced g qs t) ≡ term_instance g (under_replaced g qs v) t) →
    (replacement_for rs y ≡ None → replacement_for tail y ≡ replacement_for qs y) →
    under_replaced g (with_terms g qs rs ++ tail) v y ≡ under_replaced g rs (under_replaced g qs v) y
beside_is g v qs [] tail y k n = rw (n refl) refl
beside_is g v qs (r ∷ rs) tail y k n = by (bytes_eq r.name y) refl (beside_is g v qs rs tail y)
  where
    by : (b : Bool) → bytes_eq r.name y ≡ b → (((t : SymbolicTerm) → replacement_for rs y ≡ Some t → term_instance g v (replaced g qs t) ≡ term_instance g (under_replaced g qs v) t) → (replacement_for rs y ≡ None → replacement_for tail y ≡ replacement_for qs y)
        → under_replaced g (with_terms g qs rs ++ tail) v y ≡ under_replaced g rs (under_replaced g qs v) y)
        → under_replaced g (with_terms g qs (r ∷ rs) ++ tail) v y ≡ under_replaced g (r ∷ rs) (under_replaced g qs v) y
    by true q i = rw q (k r.term (rw q refl))
    by false q i = rw q (i (λ t z. k t (rw q z)) (λ z. n (rw q z)))

-- the replacements of the names that pass the test are the same
pub filtered_for : (test : Text → Bool) (qs : List Replaced) (y : Text) → test y ≡ true → replacement_for (filter (λ q. test q.name) qs) y ≡ replacement_for qs y
filtered_for test [] y e = refl
filtered_for test (q ∷ qs) y e = by (bytes_eq q.name y) refl (test q.name) refl (filtered_for test qs y e)
  where
    by : (b : Bool) → bytes_eq q.name y ≡ b → (c : Bool) → test q.name ≡ c → replacement_for (filter (λ q. test q.name) qs) y ≡ replacement_for qs y → replacement_for (cond c (q ∷ filter (λ q. test q.name) qs) (filter (λ q. test q.name) qs)) y ≡ (if b then Some q.term else replacement_for qs y)
    by true i true f rest = rw i refl
    by true i false f rest = absurd (no_pass (sym e ∙ ap test (sym ((bytes_eq-Decides q.name y).0 i)) ∙ f))
      where
        no_pass : true ≡ false → ⊥
        no_pass h = cc
    by false i true f rest = rw i rest
    by false i false f rest = rest

-- what is needed of a free variable of a quoted predicate
record IsReadyFor (g : KoreSignature) (qs : List Replaced) (v : Valuation) (p : KorePattern) (rs : List Replaced) (x : SortedName) : Type 0 where
  named : is_named x.name (free_variables p) ≡ true
  sorted : IsWellSorted g x.sort (term_for x (replacement_for rs x.name))
  given : AllByRecursion (Sorted g qs v) (variables_for x (replacement_for rs x.name))

abbrev is_new : KorePattern → List Replaced → Text → Bool
is_new p rs y = is_named y (free_variables p) && not (is_some (replacement_for rs y))

one_agrees : (g : KoreSignature) (v : Valuation) (qs : List Replaced) (p : KorePattern) (rs : List Replaced) (x : SortedName) → IsReadyFor g qs v p rs x → under_replaced g (beside g qs p rs) v x.name ≡ under_replaced g rs (under_replaced g qs v) x.name
one_agrees g v qs p rs x h = beside_is g v qs rs (filter (λ q. is_new p rs q.name) qs) x.name
    (λ t q. replaced_is g qs v t
    (sorted_written g x.sort t (subst (λ o. IsWellSorted g x.sort (term_for x o)) q h.sorted))
    (subst (λ o. AllByRecursion (Sorted g qs v) (variables_for x o)) q h.given))
    (λ q. filtered_for (is_new p rs) qs x.name (rw (h.named, q) refl))

all_agree : (g : KoreSignature) (v : Valuation) (qs : List Replaced) (p : KorePattern) (rs : List Replaced) (xs : List SortedName) → AllByRecursion (IsReadyFor g qs v p rs) xs → AgreesOn xs (under_replaced g rs (under_replaced g qs v)) (under_replaced g (beside g qs p rs) v)
all_agree g v qs p rs [] h = tt
all_agree g v qs p rs (x ∷ xs) h = (one_agrees g v qs p rs x h.0, all_agree g v qs p rs xs h.1)

all_ready : (g : KoreSignature) (v : Valuation) (qs : List Replaced) (p : KorePattern) (rs : List Replaced) (before xs : List SortedName) → before ++ xs ≡ free_variables p →
    AllByRecursion (λ x. IsWellSorted g x.sort (term_for x (replacement_for rs x.name))) xs → AllByRecursion (Sorted g qs v) (flat_map (λ x. variables_for x (replacement_for rs x.name)) xs) → AllByRecursion (IsReadyFor g qs v p rs) xs
all_ready g v qs p rs before [] e w h = tt
all_ready g v qs p rs before (x ∷ xs) e w h =
    let others = flat_map (λ x. variables_for x (replacement_for rs x.name)) xs in (
      record {
        named = subst (λ ys. is_named x.name ys ≡ true) e (named_here x before xs);
        sorted = w.0;
        given = all_first (Sorted g qs v) (variables_for x (replacement_for rs x.name)) others h;
      },
      all_ready g v qs p rs (before ++ x ∷ []) xs (append_assoc before (x ∷ []) xs ∙ e) w.1 (all_second (Sorted g qs v) (variables_for x (replacement_for rs x.name)) others h),
    )

by_truth : (g : KoreSignature) (v w : Valuation) (b : Bool) (p : KorePattern) (rs bs : List Replaced) → AgreesOn (free_variables p) (under_replaced g rs w) (under_replaced g bs v) → Says g v b (literal_fact b (quoted p bs)) (IsTrueUnder g (under_replaced g rs w) p)
by_truth g v w true p rs bs a = let k = same_truth g p (under_replaced g rs w) (under_replaced g bs v) a in (k.1, k.0)
by_truth g v w false p rs bs a = let k = same_truth g p (under_replaced g rs w) (under_replaced g bs v) a in ((λ n h. n (k.0 h)), (λ n h. n (k.1 h)))

-- ---- atoms

pub atom_replaced : (g : KoreSignature) (v : Valuation) (sort : KoreSort) (qs : List Replaced) (alone b : Bool) (a : Atom) → IsReady g v sort qs a → Says g v b (opened_under g qs alone b a) (IsAtomTrue g (under_replaced g qs v) a)
atom_replaced g v sort qs alone b (same s t u) h = same_replaced g v qs alone b s t u
    (replaced_term g v qs s t h.sorted.0 (all_first (Placed g qs) (term_variables t) (term_variables u) h.placed) (all_first (Sorted g qs v) (term_variables t) (term_variables u) h.given))
    (replaced_term g v qs s u h.sorted.1 (all_second (Placed g qs) (term_variables t) (term_variables u) h.placed) (all_second (Sorted g qs v) (term_variables t) (term_variables u) h.given))
atom_replaced g v sort qs alone b (has_head x test) h =
    let t = term_for x (replacement_for qs x.name) in
    let f = opened_test g b test (literal_fact b (has_head x test)) t in
    subst (λ u. Says g v b f (¬ ¬ PassesHead g test (head_of u))) (for_instance g qs v x.name x.sort (replacement_for qs x.name) refl)
    (test_says g v b test (literal_fact b (has_head x test)) x.sort t h.placed.0 (for_variables (λ y. HasSort g y.sort (v y.name)) x (replacement_for qs x.name) h.given.0))
atom_replaced g v sort qs alone b (quoted p rs) h = by_truth g v (under_replaced g qs v) b p rs (beside g qs p rs) (all_agree g v qs p rs (free_variables p) (all_ready g v qs p rs [] (free_variables p) refl h.sorted h.given))

-- ---- clauses

abbrev AreReady : KoreSignature → Valuation → KoreSort → List Replaced → List Literal → Type 0
AreReady g v sort qs = AllByRecursion (λ l. IsReady g v sort qs l.atom)

none_replaced : (g : KoreSignature) (v : Valuation) (sort : KoreSort) (qs : List Replaced) (alone : Bool) (c : List Literal) → AreReady g v sort qs c → NoneHold (IsLiteralTrue g v) (all_opened_under g qs alone c) ↔ AllByRecursion (λ l. ¬ IsLiteralTrue g (under_replaced g qs v) l) c
none_replaced g v sort qs alone [] h = ((λ a. a), (λ a. a))
none_replaced g v sort qs alone (l ∷ c) h =
    let i = atom_replaced g v sort qs alone l.holds l.atom h.0 in
    let j = none_replaced g v sort qs alone c h.1 in
    ((λ a. ((λ t. a.0 (i.1 t)), j.0 a.1)), (λ a. ((λ t. a.0 (i.0 t)), j.1 a.1)))

pub clause_replaced : (g : KoreSignature) (v : Valuation) (sort : KoreSort) (qs : List Replaced) (c : List Literal) → AreReady g v sort qs c → AreTrue g v (distributed (clause_under g qs c)) ↔ IsClauseTrue g (under_replaced g qs v) c
clause_replaced g v sort qs c h =
    let i = none_replaced g v sort qs (is_single c) c h in
    then_says (formula_says g v (clause_under g qs c)) ((λ n f. n (i.1 f)), (λ n f. n (i.0 f)))

all_said : (g : KoreSignature) (v : Valuation) (sort : KoreSort) (qs : List Replaced) (c : List Literal) → AreReady g v sort qs c → AllByRecursion (λ l. IsSaid g (under_replaced g qs v) sort l.atom) c
all_said g v sort qs [] h = tt
all_said g v sort qs (l ∷ c) h = (h.0.said, all_said g v sort qs c h.1)

written_replaced : (g : KoreSignature) (v : Valuation) (sort : KoreSort) (qs : List Replaced) (c : List Literal) → AreReady g v sort qs c → AreTrue g v ((record { holds = true; atom = quotation qs (written_clause g sort c) } ∷ []) ∷ []) ↔ IsClauseTrue g (under_replaced g qs v) c
written_replaced g v sort qs c h =
    let k = quotation_is g qs v (written_clause g sort c) in
    then_says (one_literal g v (record { holds = true; atom = quotation qs (written_clause g sort c) })) (then_says (k.1, k.0) (clause_said g (under_replaced g qs v) sort c (all_said g v sort qs c h)))

-- ---- a clause that holds none of the variables

abbrev Agrees : Valuation → Valuation → SortedName → Type 0
Agrees v w x = w x.name ≡ v x.name

mutual
  term_agrees : (g : KoreSignature) (v w : Valuation) (t : SymbolicTerm) → AllByRecursion (Agrees v w) (term_variables t) → term_instance g w t ≡ term_instance g v t
  term_agrees g v w (unknown x) a = a.0
  term_agrees g v w (offset x c) a = ap (λ u. interpreted (whole_arithmetic addition) (two u (whole c))) a.0
  term_agrees g v w (known u) a = refl
  term_agrees g v w (headed f ts) a = ap (applied (meaning_of g f) f) (terms_agree g v w ts a)

  terms_agree : (g : KoreSignature) (v w : Valuation) (ts : SymbolicTerms) → AllByRecursion (Agrees v w) (all_term_variables ts) → term_instances g w ts ≡ term_instances g v ts
  terms_agree g v w no_terms a = refl
  terms_agree g v w (next_term t ts) a = ap₂ next_value (term_agrees g v w t (all_first (Agrees v w) (term_variables t) (all_term_variables ts) a)) (terms_agree g v w ts (all_second (Agrees v w) (term_variables t) (all_term_variables ts) a))

one_stands : (g : KoreSignature) (v w : Valuation) (rs : List Replaced) (x : SortedName) (o : Option SymbolicTerm) → replacement_for rs x.name ≡ o → AllByRecursion (Agrees v w) (variables_for x o) → under_replaced g rs w x.name ≡ under_replaced g rs v x.name
one_stands g v w rs x o e a =
    sym (for_instance g rs w x.name x.sort o e) ∙ term_agrees g v w (term_for x o) (for_variables (Agrees v w) x o a) ∙ for_instance g rs v x.name x.sort o e

all_stand : (g : KoreSignature) (v w : Valuation) (rs : List Replaced) (xs : List SortedName) → AllByRecursion (Agrees v w) (flat_map (λ x. variables_for x (replacement_for rs x.name)) xs) → AgreesOn xs (under_replaced g rs v) (under_replaced g rs w)
all_stand g v w rs [] a = tt
all_stand g v w rs (x ∷ xs) a =
    let others = flat_map (λ x. variables_for x (replacement_for rs x.name)) xs in
    (one_stands g v w rs x (replacement_for rs x.name) refl (all_first (Agrees v w) (variables_for x (replacement_for rs x.name)) others a), all_stand g v w rs xs (all_second (Agrees v w) (variables_for x (replacement_for rs x.name)) others a))

atom_agrees : (g : KoreSignature) (v w : Valuation) (a : Atom) → AllByRecursion (Agrees v w) (atom_variables a) → IsAtomTrue g v a ↔ IsAtomTrue g w a
atom_agrees g v w (same s t u) h =
    let i = term_agrees g v w t (all_first (Agrees v w) (term_variables t) (term_variables u) h) in
    let j = term_agrees g v w u (all_second (Agrees v w) (term_variables t) (term_variables u) h) in
    ((λ e. i ∙ e ∙ sym j), (λ e. sym i ∙ e ∙ j))
atom_agrees g v w (has_head x test) h = (subst (λ u. ¬ ¬ PassesHead g test (head_of u)) (sym h.0), subst (λ u. ¬ ¬ PassesHead g test (head_of u)) h.0)
atom_agrees g v w (quoted p rs) h = let k = same_truth g p (under_replaced g rs v) (under_replaced g rs w) (all_stand g v w rs (free_variables p) h) in (k.0, k.1)

literal_agrees : (g : KoreSignature) (v w : Valuation) (b : Bool) (a : Atom) → AllByRecursion (Agrees v w) (atom_variables a) → IsLiteralTrue g v (record { holds = b; atom = a }) ↔ IsLiteralTrue g w (record { holds = b; atom = a })
literal_agrees g v w true a h = atom_agrees g v w a h
literal_agrees g v w false a h = let k = atom_agrees g v w a h in ((λ n t. n (k.1 t)), (λ n t. n (k.0 t)))

none_agrees : (g : KoreSignature) (v w : Valuation) (c : List Literal) → AllByRecursion (Agrees v w) (clause_variables c) → AllByRecursion (λ l. ¬ IsLiteralTrue g v l) c ↔ AllByRecursion (λ l. ¬ IsLiteralTrue g w l) c
none_agrees g v w [] h = ((λ a. a), (λ a. a))
none_agrees g v w (l ∷ c) h =
    let i = literal_agrees g v w l.holds l.atom (all_first (Agrees v w) (atom_variables l.atom) (clause_variables c) h) in
    let j = none_agrees g v w c (all_second (Agrees v w) (atom_variables l.atom) (clause_variables c) h) in
    ((λ a. ((λ t. a.0 (i.1 t)), j.0 a.1)), (λ a. ((λ t. a.0 (i.0 t)), j.1 a.1)))

or_first : (a b : Bool) → a || b ≡ false → a ≡ false
or_first true b k = k
or_first false b k = refl

or_second : (a b : Bool) → a || b ≡ false → b ≡ false
or_second true b k = absurd (cc)
or_second false b k = k

turned : (x y : Text) → bytes_eq x y ≡ false → bytes_eq y x ≡ false
turned x y i = by (bytes_eq y x) refl
  where
    by : (b : Bool) → bytes_eq y x ≡ b → b ≡ false
    by true j = sym ((bytes_eq-Decides x y).1 (sym ((bytes_eq-Decides y x).0 j))) ∙ i
    by false j = refl

-- the terms say nothing of variables of other names
keeps_others : (g : KoreSignature) (v : Valuation) (q : Replaced) (qs : List Replaced) (xs : List SortedName) → is_named q.name xs ≡ false → AllByRecursion (Agrees v (under_replaced g qs v)) xs → AllByRecursion (Agrees v (under_replaced g (q ∷ qs) v)) xs
keeps_others g v q qs [] e a = tt
keeps_others g v q qs (x ∷ xs) e a = (rw (turned x.name q.name (or_first (bytes_eq x.name q.name) (is_named q.name xs) e)) a.0, keeps_others g v q qs xs (or_second (bytes_eq x.name q.name) (is_named q.name xs) e) a.1)

as_they_are : (g : KoreSignature) (v : Valuation) (xs : List SortedName) → AllByRecursion (Agrees v (under_replaced g [] v)) xs
as_they_are g v [] = tt
as_they_are g v (x ∷ xs) = (refl, as_they_are g v xs)

none_replaced_in : (g : KoreSignature) (v : Valuation) (qs : List Replaced) (xs : List SortedName) → list_any (λ q. is_named q.name xs) qs ≡ false → AllByRecursion (Agrees v (under_replaced g qs v)) xs
none_replaced_in g v [] xs e = as_they_are g v xs
none_replaced_in g v (q ∷ qs) xs e = keeps_others g v q qs xs (or_first (is_named q.name xs) (list_any (λ r. is_named r.name xs) qs) e) (none_replaced_in g v qs xs (or_second (is_named q.name xs) (list_any (λ r. is_named r.name xs) qs) e))

kept_clause : (g : KoreSignature) (v : Valuation) (qs : List Replaced) (c : List Literal) → list_any (λ q. is_named q.name (clause_variables c)) qs ≡ false → AreTrue g v (c ∷ []) ↔ IsClauseTrue g (under_replaced g qs v) c
kept_clause g v qs c e =
    let k = none_agrees g v (under_replaced g qs v) c (none_replaced_in g v qs (clause_variables c) e) in
    ((λ a n. a.0 (k.1 n)), (λ n. ((λ a. n (k.0 a)), tt)))

-- ---- clauses of a state

by_case : (g : KoreSignature) (v : Valuation) (b d : Bool) (xs bs cs : List (List Literal)) (A : Type 0) → (b ≡ false → AreTrue g v xs ↔ A) → AreTrue g v bs ↔ A → AreTrue g v cs ↔ A → AreTrue g v (if not b then xs else if d then bs else cs) ↔ A
by_case g v false d xs bs cs A i j k = i refl
by_case g v true true xs bs cs A i j k = j
by_case g v true false xs bs cs A i j k = k

clause_substituted : (g : KoreSignature) (v : Valuation) (sort : KoreSort) (qs : List Replaced) (n : ℕ) (c : List Literal) → AreReady g v sort qs c → AreTrue g v (substituted_clause g sort qs n c) ↔ IsClauseTrue g (under_replaced g qs v) c
clause_substituted g v sort qs n c h = by_case g v (list_any (λ q. is_named q.name (clause_variables c)) qs) (is_too_large n (clause_under g qs c)) (c ∷ []) ((record { holds = true; atom = quotation qs (written_clause g sort c) } ∷ []) ∷ []) (distributed (clause_under g qs c)) (IsClauseTrue g (under_replaced g qs v) c)
    (kept_clause g v qs c)
    (written_replaced g v sort qs c h)
    (clause_replaced g v sort qs c h)

clauses_substituted : (g : KoreSignature) (v : Valuation) (sort : KoreSort) (qs : List Replaced) (n : ℕ) (cs : List (List Literal)) → AllByRecursion (AreReady g v sort qs) cs → AreTrue g v (substituted_clauses g sort qs n cs) ↔ AreTrue g (under_replaced g qs v) cs
clauses_substituted g v sort qs n [] h = ((λ a. a), (λ a. a))
clauses_substituted g v sort qs n (c ∷ cs) h =
    let k = n + literals_in (substituted_clause g sort qs n c) in
    two_lists g v (substituted_clause g sort qs n c) (substituted_clauses g sort qs k cs) (IsClauseTrue g (under_replaced g qs v) c) (AreTrue g (under_replaced g qs v) cs) (clause_substituted g v sort qs n c h.0) (clauses_substituted g v sort qs k cs h.1)

-- ---- states

pub substituted_says : (g : KoreSignature) (v : Valuation) (qs : List Replaced) (s : SymbolicState) → AllByRecursion (AllByRecursion (λ l. IsReady g v s.sort qs l.atom)) s.clauses → AreTrue g v (substituted g qs s).clauses ↔ AreTrue g (under_replaced g qs v) s.clauses
substituted_says g v qs s h = then_says (once_says g v (substituted_clauses g s.sort qs 0 s.clauses)) (clauses_substituted g v s.sort qs 0 s.clauses h)

pub substituted_instance : (g : KoreSignature) (v : Valuation) (qs : List Replaced) (s : SymbolicState) (u : Value) → AllByRecursion (AllByRecursion (λ l. IsReady g v s.sort qs l.atom)) s.clauses → IsWellSorted g s.sort s.term → AreGiven g qs v (term_variables s.term) →
    IsStateInstance g v (substituted g qs s) u ↔ IsStateInstance g (under_replaced g qs v) s u
substituted_instance g v qs s u h w a =
    let k = substituted_says g v qs s h in
    let is : term_instance g v (replaced g qs s.term) ≡ term_instance g (under_replaced g qs v) s.term = replaced_is g qs v s.term (sorted_written g s.sort s.term w) a in (
      (λ i. record { term = i.term ∙ is; clauses = k.0 i.clauses }),
      (λ i. record { term = i.term ∙ sym is; clauses = k.1 i.clauses }),
    )
