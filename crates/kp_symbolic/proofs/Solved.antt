-- A state in which an equation is solved has the instances that it had, under valuations for which it is ready.
use Rattle.std.proofs.Common.{◌≡◌, refl, sym, ◌∙◌, subst, ℕ, zero, suc, ◌+◌, Bool, true, false, not, ◌&&◌, List, [], ◌∷◌, ◌++◌, map, length, Option, Some, None, ◌↔◌}
use Rattle.std.specs.Prelude.{if◌then◌else◌, is_some}
use Rattle.std.specs.List.{AllByRecursion, flat_map}
use Rattle.std.specs.Str.{bytes_eq}
use Rattle.kp_kore.specs.Syntax.{Text, KoreSort, KorePattern}
use Rattle.kp_kore.specs.Parts.{SortedName, free_variables}
use Rattle.kp_kore.specs.Signature.{KoreSignature}
use Rattle.kp_kore.specs.Value.{Value, HasSort, head_of}
use Rattle.kp_kore.specs.Instance.{Valuation, GivesSorts, AgreesOn, is_named, IsTrueUnder}
use Rattle.kp_kore.proofs.TruthLemmas.{same_truth}
use Rattle.kp_symbolic.specs.Terms.{SymbolicTerm, term_instance, term_variables, Replaced, replacement_for, under_replaced}
use Rattle.kp_symbolic.specs.Formulas.{NoneHold}
use Rattle.kp_symbolic.specs.States.{Atom, same, has_head, quoted, IsAtomTrue, PassesHead, Literal, IsLiteralTrue, IsClauseTrue, AreTrue, AreGiven, variables_for, clause_variables, SymbolicState, IsStateInstance}
use Rattle.kp_symbolic.specs.WellFormed.{IsWellSorted}
use Rattle.kp_symbolic.specs.Folding.{term_for, replaced}
use Rattle.kp_symbolic.specs.Opening.{literal_fact, opened_same, opened_test}
use Rattle.kp_symbolic.specs.Clauses.{distributed, is_too_large}
use Rattle.kp_symbolic.specs.Writing.{IsSaid, written_clause}
use Rattle.kp_symbolic.specs.Solving.{Equation, replacement, replaced_after, opened_with, all_opened_with, is_single, opened_clause, solved_clause, literals_in, solved_clauses, Solvable, first_solvable, solved_at, IsReadyAtom}
use Rattle.kp_symbolic.proofs.Distribution.{all_both, all_first, all_second}
use Rattle.kp_symbolic.proofs.Folded.{for_instance, for_variables}
use Rattle.kp_symbolic.proofs.SeenLemmas.{Says}
use Rattle.kp_symbolic.proofs.CallOpening.{opened_same_says}
use Rattle.kp_symbolic.proofs.Replacing.{replaced_variables, solved_term_is, one_replaced}
use Rattle.kp_symbolic.proofs.WellSorted.{term_sorted, term_given, sorted_written}
use Rattle.kp_symbolic.proofs.SortedFolding.{replaced_sorted}
use Rattle.kp_symbolic.proofs.HeadQuestions.{test_says}
use Rattle.kp_symbolic.proofs.Leaf.{formula_says, one_literal, once_says, then_says}
use Rattle.kp_symbolic.proofs.Equations.{IsMet, met_clause}
use Rattle.kp_symbolic.proofs.Written.{clause_said}
use Rattle.kp_symbolic.proofs.Found.{at_place, found_in, at_place_still}

abbrev Placed : KoreSignature → Equation → SortedName → Type 0
Placed g e x = IsWellSorted g x.sort (term_for x (replacement_for (replacement e) x.name))

abbrev Sorted : KoreSignature → Equation → Valuation → SortedName → Type 0
Sorted g e v x = GivesSorts g v (variables_for x (replacement_for (replacement e) x.name))

-- ---- a term with the equation's in the variable's place

record IsSolvedTerm (g : KoreSignature) (v : Valuation) (e : Equation) (s : KoreSort) (t : SymbolicTerm) : Type 0 where
  sorted : IsWellSorted g s (replaced g (replacement e) t)
  given : GivesSorts g v (term_variables (replaced g (replacement e) t))
  is : term_instance g v (replaced g (replacement e) t) ≡ term_instance g v t

solved_term : (g : KoreSignature) (v : Valuation) (e : Equation) (s : KoreSort) (t : SymbolicTerm) → IsMet g v e → IsWellSorted g s t → AllByRecursion (Placed g e) (term_variables t) → AllByRecursion (Sorted g e v) (term_variables t) → IsSolvedTerm g v e s t
solved_term g v e s t m w p h = record {
  sorted = replaced_sorted g (replacement e) s t w p;
  given = replaced_variables g (replacement e) (λ y. HasSort g y.sort (v y.name)) t (sorted_written g s t w) h;
  is = solved_term_is g v e.variable.name e.term t (sorted_written g s t w) h m;
}

same_solved : (g : KoreSignature) (v : Valuation) (e : Equation) (alone b : Bool) (s : KoreSort) (t u : SymbolicTerm) → IsSolvedTerm g v e s t → IsSolvedTerm g v e s u → Says g v b (opened_same g alone b s (replaced g (replacement e) t) (replaced g (replacement e) u)) (term_instance g v t ≡ term_instance g v u)
same_solved g v e alone b s t u i j =
    let x = replaced g (replacement e) t in
    let y = replaced g (replacement e) u in
    subst (λ z. Says g v b (opened_same g alone b s x y) (z ≡ term_instance g v u)) i.is
    (subst (λ z. Says g v b (opened_same g alone b s x y) (term_instance g v x ≡ z)) j.is
    (opened_same_says g v alone b s x y i.given j.given (term_given g v s x i.sorted i.given) (term_given g v s y j.sorted j.given) (term_sorted g v s x i.sorted i.given) (term_sorted g v s y j.sorted j.given)))

-- ---- quoted predicates

after_is : (g : KoreSignature) (v : Valuation) (e : Equation) (rs tail : List Replaced) (y : Text) → ((t : SymbolicTerm) → replacement_for rs y ≡ Some t → term_instance g v (replaced g (replacement e) t) ≡ term_instance g v t) → under_replaced g tail v y ≡ v y
    → under_replaced g (map (λ r. record { name = r.name; term = replaced g (replacement e) r.term }) rs ++ tail) v y ≡ under_replaced g rs v y
after_is g v e [] tail y k n = n
after_is g v e (r ∷ rs) tail y k n = by (bytes_eq r.name y) refl (after_is g v e rs tail y)
  where
    by : (b : Bool) → bytes_eq r.name y ≡ b → (((t : SymbolicTerm) → replacement_for rs y ≡ Some t → term_instance g v (replaced g (replacement e) t) ≡ term_instance g v t) → under_replaced g tail v y ≡ v y
        → under_replaced g (map (λ r. record { name = r.name; term = replaced g (replacement e) r.term }) rs ++ tail) v y ≡ under_replaced g rs v y)
        → under_replaced g (map (λ r. record { name = r.name; term = replaced g (replacement e) r.term }) (r ∷ rs) ++ tail) v y ≡ under_replaced g (r ∷ rs) v y
    by true q i = rw q (k r.term (rw q refl))
    by false q i = rw q (i (λ t z. k t (rw q z)) n)

pub tail_is : (g : KoreSignature) (v : Valuation) (e : Equation) (b : Bool) (y : Text) → IsMet g v e → under_replaced g (if b then replacement e else []) v y ≡ v y
tail_is g v e true y m = one_replaced g v e.variable.name e.term m y
tail_is g v e false y m = refl

-- what is needed of a free variable of a quoted predicate
abbrev IsReadyFor : KoreSignature → Equation → Valuation → List Replaced → SortedName → Type 0
IsReadyFor g e v rs x = IsWellSorted g x.sort (term_for x (replacement_for rs x.name)) × AllByRecursion (Sorted g e v) (variables_for x (replacement_for rs x.name))

one_agrees : (g : KoreSignature) (v : Valuation) (e : Equation) (b : Bool) (rs : List Replaced) (x : SortedName) → IsMet g v e → IsReadyFor g e v rs x
    → under_replaced g (map (λ r. record { name = r.name; term = replaced g (replacement e) r.term }) rs ++ (if b then replacement e else [])) v x.name ≡ under_replaced g rs v x.name
one_agrees g v e b rs x m h = after_is g v e rs (if b then replacement e else []) x.name
    (λ t q. solved_term_is g v e.variable.name e.term t
    (sorted_written g x.sort t (subst (λ o. IsWellSorted g x.sort (term_for x o)) q h.0))
    (subst (λ o. AllByRecursion (Sorted g e v) (variables_for x o)) q h.1) m)
    (tail_is g v e b x.name m)

all_agree : (g : KoreSignature) (v : Valuation) (e : Equation) (b : Bool) (rs : List Replaced) (xs : List SortedName) → IsMet g v e → AllByRecursion (IsReadyFor g e v rs) xs
    → AgreesOn xs (under_replaced g rs v) (under_replaced g (map (λ r. record { name = r.name; term = replaced g (replacement e) r.term }) rs ++ (if b then replacement e else [])) v)
all_agree g v e b rs [] m h = tt
all_agree g v e b rs (x ∷ xs) m h = (one_agrees g v e b rs x m h.0, all_agree g v e b rs xs m h.1)

all_ready : (g : KoreSignature) (v : Valuation) (e : Equation) (rs : List Replaced) (xs : List SortedName) → AllByRecursion (λ x. IsWellSorted g x.sort (term_for x (replacement_for rs x.name))) xs → AllByRecursion (Sorted g e v) (flat_map (λ x. variables_for x (replacement_for rs x.name)) xs) → AllByRecursion (IsReadyFor g e v rs) xs
all_ready g v e rs [] w h = tt
all_ready g v e rs (x ∷ xs) w h =
    let others = flat_map (λ x. variables_for x (replacement_for rs x.name)) xs in
    ((w.0, all_first (Sorted g e v) (variables_for x (replacement_for rs x.name)) others h), all_ready g v e rs xs w.1 (all_second (Sorted g e v) (variables_for x (replacement_for rs x.name)) others h))

pub by_truth : (g : KoreSignature) (v : Valuation) (b : Bool) (p : KorePattern) (rs qs : List Replaced) → AgreesOn (free_variables p) (under_replaced g rs v) (under_replaced g qs v) → Says g v b (literal_fact b (quoted p qs)) (IsTrueUnder g (under_replaced g rs v) p)
by_truth g v true p rs qs a = let k = same_truth g p (under_replaced g rs v) (under_replaced g qs v) a in (k.1, k.0)
by_truth g v false p rs qs a = let k = same_truth g p (under_replaced g rs v) (under_replaced g qs v) a in ((λ n h. n (k.0 h)), (λ n h. n (k.1 h)))

-- ---- atoms

pub atom_solved : (g : KoreSignature) (v : Valuation) (sort : KoreSort) (e : Equation) (alone b : Bool) (a : Atom) → IsMet g v e → IsReadyAtom g v sort e a → Says g v b (opened_with g e alone b a) (IsAtomTrue g v a)
atom_solved g v sort e alone b (same s t u) m h = same_solved g v e alone b s t u
    (solved_term g v e s t m h.sorted.0 (all_first (Placed g e) (term_variables t) (term_variables u) h.placed) (all_first (Sorted g e v) (term_variables t) (term_variables u) h.given))
    (solved_term g v e s u m h.sorted.1 (all_second (Placed g e) (term_variables t) (term_variables u) h.placed) (all_second (Sorted g e v) (term_variables t) (term_variables u) h.given))
atom_solved g v sort e alone b (has_head x test) m h =
    let t = term_for x (replacement_for (replacement e) x.name) in
    let f = opened_test g b test (literal_fact b (has_head x test)) t in
    subst (λ u. Says g v b f (¬ ¬ PassesHead g test (head_of u))) (for_instance g (replacement e) v x.name x.sort (replacement_for (replacement e) x.name) refl ∙ one_replaced g v e.variable.name e.term m x.name)
    (test_says g v b test (literal_fact b (has_head x test)) x.sort t h.placed.0 (for_variables (λ y. HasSort g y.sort (v y.name)) x (replacement_for (replacement e) x.name) h.given.0))
atom_solved g v sort e alone b (quoted p rs) m h =
    by_truth g v b p rs (replaced_after g e p rs) (all_agree g v e (is_named e.variable.name (free_variables p) && not (is_some (replacement_for rs e.variable.name))) rs (free_variables p) m (all_ready g v e rs (free_variables p) h.sorted h.given))

-- ---- clauses

abbrev pub AreReady : KoreSignature → Valuation → KoreSort → Equation → List Literal → Type 0
AreReady g v sort e = AllByRecursion (λ l. IsReadyAtom g v sort e l.atom)

none_solved : (g : KoreSignature) (v : Valuation) (sort : KoreSort) (e : Equation) (alone : Bool) (c : List Literal) → IsMet g v e → AreReady g v sort e c → NoneHold (IsLiteralTrue g v) (all_opened_with g e alone c) ↔ AllByRecursion (λ l. ¬ IsLiteralTrue g v l) c
none_solved g v sort e alone [] m h = ((λ a. a), (λ a. a))
none_solved g v sort e alone (l ∷ c) m h =
    let i = atom_solved g v sort e alone l.holds l.atom m h.0 in
    let j = none_solved g v sort e alone c m h.1 in
    ((λ a. ((λ t. a.0 (i.1 t)), j.0 a.1)), (λ a. ((λ t. a.0 (i.0 t)), j.1 a.1)))

opened_clause_says : (g : KoreSignature) (v : Valuation) (sort : KoreSort) (e : Equation) (c : List Literal) → IsMet g v e → AreReady g v sort e c → AreTrue g v (distributed (opened_clause g e c)) ↔ IsClauseTrue g v c
opened_clause_says g v sort e c m h =
    let i = none_solved g v sort e (is_single c) c m h in
    then_says (formula_says g v (opened_clause g e c)) ((λ n f. n (i.1 f)), (λ n f. n (i.0 f)))

pub everywhere : (g : KoreSignature) (v : Valuation) (e : Equation) (xs : List SortedName) → IsMet g v e → AgreesOn xs v (under_replaced g (replacement e) v)
everywhere g v e [] m = tt
everywhere g v e (x ∷ xs) m = (one_replaced g v e.variable.name e.term m x.name, everywhere g v e xs m)

all_said : (g : KoreSignature) (v : Valuation) (sort : KoreSort) (e : Equation) (c : List Literal) → AreReady g v sort e c → AllByRecursion (λ l. IsSaid g v sort l.atom) c
all_said g v sort e [] h = tt
all_said g v sort e (l ∷ c) h = (h.0.said, all_said g v sort e c h.1)

quoted_clause_says : (g : KoreSignature) (v : Valuation) (sort : KoreSort) (e : Equation) (c : List Literal) → IsMet g v e → AreReady g v sort e c → AreTrue g v ((record { holds = true; atom = quoted (written_clause g sort c) (replacement e) } ∷ []) ∷ []) ↔ IsClauseTrue g v c
quoted_clause_says g v sort e c m h =
    let k = same_truth g (written_clause g sort c) v (under_replaced g (replacement e) v) (everywhere g v e (free_variables (written_clause g sort c)) m) in
    then_says (one_literal g v (record { holds = true; atom = quoted (written_clause g sort c) (replacement e) })) (then_says (k.1, k.0) (clause_said g v sort c (all_said g v sort e c h)))

by_case : (g : KoreSignature) (v : Valuation) (b d : Bool) (xs bs cs : List (List Literal)) (A : Type 0) → AreTrue g v xs ↔ A → AreTrue g v bs ↔ A → AreTrue g v cs ↔ A → AreTrue g v (if b then xs else if d then bs else cs) ↔ A
by_case g v true d xs bs cs A i j k = i
by_case g v false true xs bs cs A i j k = j
by_case g v false false xs bs cs A i j k = k

pub clause_solved : (g : KoreSignature) (v : Valuation) (sort : KoreSort) (e : Equation) (n : ℕ) (c : List Literal) → IsMet g v e → AreReady g v sort e c → AreTrue g v (solved_clause g sort e n c) ↔ IsClauseTrue g v c
clause_solved g v sort e n c m h = by_case g v (not (is_named e.variable.name (clause_variables c))) (is_too_large n (opened_clause g e c)) (c ∷ []) ((record { holds = true; atom = quoted (written_clause g sort c) (replacement e) } ∷ []) ∷ []) (distributed (opened_clause g e c)) (IsClauseTrue g v c)
    ((λ a. a.0), (λ a. (a, tt)))
    (quoted_clause_says g v sort e c m h)
    (opened_clause_says g v sort e c m h)

pub two_lists : (g : KoreSignature) (v : Valuation) (xs bs : List (List Literal)) (A B : Type 0) → AreTrue g v xs ↔ A → AreTrue g v bs ↔ B → AreTrue g v (xs ++ bs) ↔ (A × B)
two_lists g v xs bs A B i j = (
  (λ h. (i.0 (all_first (IsClauseTrue g v) xs bs h), j.0 (all_second (IsClauseTrue g v) xs bs h))),
  (λ h. all_both (IsClauseTrue g v) xs bs (i.1 h.0) (j.1 h.1)),
)

clauses_solved : (g : KoreSignature) (v : Valuation) (sort : KoreSort) (e : Equation) (n : ℕ) (o : Option ℕ) (cs : List (List Literal)) → IsMet g v e → AllByRecursion (AreReady g v sort e) cs → AreTrue g v (solved_clauses g sort e n o cs) ↔ AreTrue g v cs
clauses_solved g v sort e n o [] m h = ((λ a. a), (λ a. a))
clauses_solved g v sort e n (Some zero) (c ∷ cs) m h = let j = clauses_solved g v sort e (n + length c) None cs m h.1 in ((λ a. (a.0, j.0 a.1)), (λ a. (a.0, j.1 a.1)))
clauses_solved g v sort e n (Some (suc i)) (c ∷ cs) m h =
    let k = n + literals_in (solved_clause g sort e n c) in
    two_lists g v (solved_clause g sort e n c) (solved_clauses g sort e k (Some i) cs) (IsClauseTrue g v c) (AreTrue g v cs) (clause_solved g v sort e n c m h.0) (clauses_solved g v sort e k (Some i) cs m h.1)
clauses_solved g v sort e n None (c ∷ cs) m h =
    let k = n + literals_in (solved_clause g sort e n c) in
    two_lists g v (solved_clause g sort e n c) (solved_clauses g sort e k None cs) (IsClauseTrue g v c) (AreTrue g v cs) (clause_solved g v sort e n c m h.0) (clauses_solved g v sort e k None cs m h.1)

-- ---- the equation's own clause

first_ready : (g : KoreSignature) (v : Valuation) (sort : KoreSort) (e : Equation) (c : List Literal) (l : Literal) → AreReady g v sort e c → c ≡ l ∷ [] → IsReadyAtom g v sort e l.atom
first_ready g v sort e c l h q = (subst (AreReady g v sort e) q h).0

-- ---- states

pub solved_clauses_say : (g : KoreSignature) (v : Valuation) (s : SymbolicState) (o : Solvable) → first_solvable g s ≡ Some o → AllByRecursion (AllByRecursion (λ l. IsReadyAtom g v s.sort o.equation l.atom)) s.clauses
    → ((AreTrue g v s.clauses → IsMet g v o.equation × AreTrue g v (solved_at g o s).clauses) × (AreTrue g v (solved_at g o s).clauses → IsMet g v o.equation × AreTrue g v s.clauses))
solved_clauses_say g v s o q h =
    let e = o.equation in
    let ds = solved_clauses g s.sort e 0 (Some o.place) s.clauses in
    let f = found_in g s o q in
    let c = at_place (AreReady g v s.sort e) o.place s.clauses f.clause h f.stands in
    let met : IsClauseTrue g v f.clause → IsMet g v e = λ t. met_clause g v f.clause e (λ l i. let k = first_ready g v s.sort e f.clause l c i in (k.sorted, k.gives)) t f.gives in (
      (λ a. let m = met (at_place (IsClauseTrue g v) o.place s.clauses f.clause a f.stands) in (m, (once_says g v ds).1 ((clauses_solved g v s.sort e 0 (Some o.place) s.clauses m h).1 a))),
      (λ a. let b = (once_says g v ds).0 a in let m = met (at_place_still g (IsClauseTrue g v) s.sort e 0 o.place s.clauses f.clause b f.stands) in (m, (clauses_solved g v s.sort e 0 (Some o.place) s.clauses m h).0 b)),
    )

pub solved_instance : (g : KoreSignature) (v : Valuation) (s : SymbolicState) (o : Solvable) (u : Value) → first_solvable g s ≡ Some o → AllByRecursion (AllByRecursion (λ l. IsReadyAtom g v s.sort o.equation l.atom)) s.clauses → IsWellSorted g s.sort s.term → AreGiven g (replacement o.equation) v (term_variables s.term)
    → IsStateInstance g v s u ↔ IsStateInstance g v (solved_at g o s) u
solved_instance g v s o u q h w a =
    let k = solved_clauses_say g v s o q h in
    let is : IsMet g v o.equation → term_instance g v (replaced g (replacement o.equation) s.term) ≡ term_instance g v s.term = λ m. solved_term_is g v o.equation.variable.name o.equation.term s.term (sorted_written g s.sort s.term w) a m in (
      (λ i. let j = k.0 i.clauses in record { term = i.term ∙ sym (is j.0); clauses = j.1 }),
      (λ i. let j = k.1 i.clauses in record { term = i.term ∙ is j.0; clauses = j.1 }),
    )
