-- A state with the sorts of its places has, where an equation is solved, the instances that it had, under a valuation that
-- gives the variables at hand values of their sorts.
use Rattle.std.proofs.Common.{◌≡◌, refl, sym, ◌∙◌, subst, ℕ, zero, suc, ◌+◌, Bool, true, false, not, ◌&&◌, List, [], ◌∷◌, ◌++◌, length, Option, Some, None, ◌↔◌}
use Rattle.std.specs.Prelude.{if◌then◌else◌, is_some}
use Rattle.std.specs.List.{AllByRecursion, Contains, flat_map}
use Rattle.std.specs.Str.{bytes_eq}
use Rattle.kp_kore.specs.Syntax.{KoreSort}
use Rattle.kp_kore.specs.Parts.{SortedName, free_variables}
use Rattle.kp_kore.specs.Signature.{KoreSignature, itself}
use Rattle.kp_kore.specs.Value.{Value, HasSort, head_of}
use Rattle.kp_kore.specs.Instance.{Valuation, GivesSorts, AgreesOn, is_named, IsTrueUnder}
use Rattle.kp_kore.proofs.TruthLemmas.{same_truth}
use Rattle.kp_kore.proofs.TurnLemmas.{of_member}
use Rattle.kp_symbolic.specs.Terms.{SymbolicTerm, unknown, term_instance, term_variables, Replaced, replacement_for, under_replaced}
use Rattle.kp_symbolic.specs.Formulas.{NoneHold}
use Rattle.kp_symbolic.specs.States.{Atom, same, has_head, quoted, atom_variables, variables_for, IsAtomTrue, PassesHead, Literal, IsLiteralTrue, IsClauseTrue, AreTrue, clause_variables, SymbolicState, IsStateInstance}
use Rattle.kp_symbolic.specs.WellFormed.{IsWellSortedAtom, AreWellPlaced, AreAtHand}
use Rattle.kp_symbolic.specs.Folding.{term_for, replaced}
use Rattle.kp_symbolic.specs.Opening.{literal_fact, opened_same, opened_test}
use Rattle.kp_symbolic.specs.Clauses.{distributed, is_too_large}
use Rattle.kp_symbolic.specs.Writing.{written_clause}
use Rattle.kp_symbolic.specs.Solving.{Equation, replacement, replaced_after, opened_with, all_opened_with, is_single, opened_clause, solved_clause, literals_in, solved_clauses, Solvable, first_solvable, solved_at}
use Rattle.kp_symbolic.proofs.Distribution.{all_first, all_second}
use Rattle.kp_symbolic.proofs.Folded.{OfEach, for_instance}
use Rattle.kp_symbolic.proofs.SeenLemmas.{Says}
use Rattle.kp_symbolic.proofs.CallOpening.{opened_same_says}
use Rattle.kp_symbolic.proofs.Replacing.{solved_term_is, one_replaced}
use Rattle.kp_symbolic.proofs.WellSorted.{term_sorted, term_given, sorted_written}
use Rattle.kp_symbolic.proofs.HeadQuestions.{test_says}
use Rattle.kp_symbolic.proofs.Leaf.{formula_says, one_literal, once_says, then_says}
use Rattle.kp_symbolic.proofs.Equations.{IsMet, met_clause}
use Rattle.kp_symbolic.proofs.Facts.{Good, GoodTerm}
use Rattle.kp_symbolic_laws.specs.Runs.{HasOneSortEach, IsSortedState, kept_whole, IfKeptWhole, OfKeptWhole, OfKeptAt, IsWrittenRight}
use Rattle.kp_symbolic_laws.proofs.RightEquations.{IsRightEquation, right_clause}
use Rattle.kp_symbolic_laws.proofs.Keeping.{IsPut, all_given, put_in, put_into, by_case}
use Rattle.kp_symbolic.proofs.Found.{at_place, at_place_still, found_in}
use Rattle.kp_symbolic.proofs.Solved.{by_truth, two_lists, everywhere, tail_is}

-- what a step of solving goes by: the variables at hand, each name of one sort, with values of their sorts, and a right
-- equation that is true
pub record IsStep (g : KoreSignature) (v : Valuation) (hand : List SortedName) (e : Equation) : Type 0 where
  pub one : HasOneSortEach hand
  pub right : IsRightEquation g hand e
  pub met : IsMet g v e
  pub gives : GivesSorts g v hand

abbrev Given : KoreSignature → Valuation → SortedName → Type 0
Given g v x = HasSort g x.sort (v x.name)

pub at_hand_given : (g : KoreSignature) (v : Valuation) (hand xs : List SortedName) → GivesSorts g v hand → AreAtHand xs hand → GivesSorts g v xs
at_hand_given g v hand [] h a = tt
at_hand_given g v hand (x ∷ xs) h a = (of_member (Given g v) hand x h a.0, at_hand_given g v hand xs h a.1)

pub each_given : (g : KoreSignature) (v : Valuation) (hand : List SortedName) (rs : List Replaced) (xs : List SortedName) → GivesSorts g v hand → OfEach rs (λ x. Contains hand x) xs → OfEach rs (Given g v) xs
each_given g v hand rs [] h a = tt
each_given g v hand rs (x ∷ xs) h a = (at_hand_given g v hand (variables_for x (replacement_for rs x.name)) h a.0, each_given g v hand rs xs h a.1)

-- ---- terms

pub term_kept : (g : KoreSignature) (v : Valuation) (hand : List SortedName) (e : Equation) (s : KoreSort) (t : SymbolicTerm) → IsStep g v hand e → GoodTerm g hand s t → term_instance g v (replaced g (replacement e) t) ≡ term_instance g v t
term_kept g v hand e s t k i = solved_term_is g v e.variable.name e.term t (sorted_written g s t i.0) (each_given g v hand (replacement e) (term_variables t) k.gives (all_given g hand e (term_variables t) k.one k.right i.1)) k.met

same_kept : (g : KoreSignature) (v : Valuation) (hand : List SortedName) (e : Equation) (alone b : Bool) (s : KoreSort) (t u : SymbolicTerm) → IsStep g v hand e → GoodTerm g hand s t → GoodTerm g hand s u → Says g v b (opened_same g alone b s (replaced g (replacement e) t) (replaced g (replacement e) u)) (term_instance g v t ≡ term_instance g v u)
same_kept g v hand e alone b s t u k i j =
    let x = replaced g (replacement e) t in
    let y = replaced g (replacement e) u in
    let p = put_in g hand e s t k.one k.right i in
    let q = put_in g hand e s u k.one k.right j in
    let c = at_hand_given g v hand (term_variables x) k.gives p.1 in
    let d = at_hand_given g v hand (term_variables y) k.gives q.1 in
    subst (λ z. Says g v b (opened_same g alone b s x y) (z ≡ term_instance g v u)) (term_kept g v hand e s t k i)
    (subst (λ z. Says g v b (opened_same g alone b s x y) (term_instance g v x ≡ z)) (term_kept g v hand e s u k j)
    (opened_same_says g v alone b s x y c d (term_given g v s x p.0 c) (term_given g v s y q.0 d) (term_sorted g v s x p.0 c) (term_sorted g v s y q.0 d)))

-- ---- quoted predicates

after_is : (g : KoreSignature) (v : Valuation) (hand : List SortedName) (e : Equation) (rs tail : List Replaced) (x : SortedName) → IsStep g v hand e → IsPut g hand x (replacement_for rs x.name) → under_replaced g tail v x.name ≡ v x.name → under_replaced g (put_into g e rs ++ tail) v x.name ≡ under_replaced g rs v x.name
after_is g v hand e [] tail x k i n = n
after_is g v hand e (r ∷ rs) tail x k i n = by (bytes_eq r.name x.name) refl i (λ j. after_is g v hand e rs tail x k j n)
  where
    by : (b : Bool) → bytes_eq r.name x.name ≡ b → IsPut g hand x (if b then Some r.term else replacement_for rs x.name) → (IsPut g hand x (replacement_for rs x.name) → under_replaced g (put_into g e rs ++ tail) v x.name ≡ under_replaced g rs v x.name) → under_replaced g (put_into g e (r ∷ rs) ++ tail) v x.name ≡ under_replaced g (r ∷ rs) v x.name
    by true q j f = rw q (term_kept g v hand e x.sort r.term k j)
    by false q j f = rw q (f j)

abbrev variables_in : List Replaced → List SortedName → List SortedName
variables_in rs xs = flat_map (λ x. variables_for x (replacement_for rs x.name)) xs

all_agree : (g : KoreSignature) (v : Valuation) (hand : List SortedName) (e : Equation) (b : Bool) (rs : List Replaced) (xs : List SortedName) → IsStep g v hand e → AreWellPlaced g rs xs → AreAtHand (variables_in rs xs) hand → AgreesOn xs (under_replaced g rs v) (under_replaced g (put_into g e rs ++ (if b then replacement e else [])) v)
all_agree g v hand e b rs [] k w a = tt
all_agree g v hand e b rs (x ∷ xs) k w a =
    let At = λ (y : SortedName). Contains hand y in (
      after_is g v hand e rs (if b then replacement e else []) x k (w.0, all_first At (variables_for x (replacement_for rs x.name)) (variables_in rs xs) a) (tail_is g v e b x.name k.met),
      all_agree g v hand e b rs xs k w.1 (all_second At (variables_for x (replacement_for rs x.name)) (variables_in rs xs) a),
    )

-- ---- atoms

atom_kept : (g : KoreSignature) (v : Valuation) (hand : List SortedName) (e : Equation) (alone b : Bool) (a : Atom) → IsStep g v hand e → IsWellSortedAtom g a × AreAtHand (atom_variables a) hand → Says g v b (opened_with g e alone b a) (IsAtomTrue g v a)
atom_kept g v hand e alone b (same s t u) k i =
    let At = λ (x : SortedName). Contains hand x in
    same_kept g v hand e alone b s t u k (i.0.0, all_first At (term_variables t) (term_variables u) i.1) (i.0.1, all_second At (term_variables t) (term_variables u) i.1)
atom_kept g v hand e alone b (has_head x test) k i =
    let t = term_for x (replacement_for (replacement e) x.name) in
    let f = opened_test g b test (literal_fact b (has_head x test)) t in
    let p = put_in g hand e x.sort (unknown x) k.one k.right (itself x.sort, i.1) in
    subst (λ u. Says g v b f (¬ ¬ PassesHead g test (head_of u))) (for_instance g (replacement e) v x.name x.sort (replacement_for (replacement e) x.name) refl ∙ one_replaced g v e.variable.name e.term k.met x.name)
    (test_says g v b test (literal_fact b (has_head x test)) x.sort t p.0 (at_hand_given g v hand (term_variables t) k.gives p.1))
atom_kept g v hand e alone b (quoted p rs) k i =
    by_truth g v b p rs (replaced_after g e p rs) (all_agree g v hand e (is_named e.variable.name (free_variables p) && not (is_some (replacement_for rs e.variable.name))) rs (free_variables p) k i.0 i.1)

-- ---- clauses

none_kept : (g : KoreSignature) (v : Valuation) (hand : List SortedName) (e : Equation) (alone : Bool) (c : List Literal) → IsStep g v hand e → AllByRecursion (Good g hand) c → NoneHold (IsLiteralTrue g v) (all_opened_with g e alone c) ↔ AllByRecursion (λ l. ¬ IsLiteralTrue g v l) c
none_kept g v hand e alone [] k h = ((λ a. a), (λ a. a))
none_kept g v hand e alone (l ∷ c) k h =
    let i = atom_kept g v hand e alone l.holds l.atom k h.0 in
    let j = none_kept g v hand e alone c k h.1 in
    ((λ a. ((λ t. a.0 (i.1 t)), j.0 a.1)), (λ a. ((λ t. a.0 (i.0 t)), j.1 a.1)))

pub opened_kept : (g : KoreSignature) (v : Valuation) (hand : List SortedName) (e : Equation) (c : List Literal) → IsStep g v hand e → AllByRecursion (Good g hand) c → AreTrue g v (distributed (opened_clause g e c)) ↔ IsClauseTrue g v c
opened_kept g v hand e c k h =
    let i = none_kept g v hand e (is_single c) c k h in
    then_says (formula_says g v (opened_clause g e c)) ((λ n f. n (i.1 f)), (λ n f. n (i.0 f)))

whole_kept : (g : KoreSignature) (v : Valuation) (sort : KoreSort) (e : Equation) (c : List Literal) → IsMet g v e → IsTrueUnder g v (written_clause g sort c) ↔ IsClauseTrue g v c → AreTrue g v (kept_whole g sort e c ∷ []) ↔ IsClauseTrue g v c
whole_kept g v sort e c m i =
    let k = same_truth g (written_clause g sort c) v (under_replaced g (replacement e) v) (everywhere g v e (free_variables (written_clause g sort c)) m) in
    then_says (one_literal g v (record { holds = true; atom = quoted (written_clause g sort c) (replacement e) })) (then_says (k.1, k.0) i)

clause_kept : (g : KoreSignature) (v : Valuation) (hand : List SortedName) (sort : KoreSort) (e : Equation) (n : ℕ) (c : List Literal) → IsStep g v hand e → IfKeptWhole g e (λ d. IsTrueUnder g v (written_clause g sort d) ↔ IsClauseTrue g v d) n c → AllByRecursion (Good g hand) c → AreTrue g v (solved_clause g sort e n c) ↔ IsClauseTrue g v c
clause_kept g v hand sort e n c k w h = by_case (λ zs. AreTrue g v zs ↔ IsClauseTrue g v c) (IsTrueUnder g v (written_clause g sort c) ↔ IsClauseTrue g v c) (is_named e.variable.name (clause_variables c)) (is_too_large n (opened_clause g e c)) c (kept_whole g sort e c) (distributed (opened_clause g e c)) w
    ((λ a. a.0), (λ a. (a, tt)))
    (λ i. whole_kept g v sort e c k.met i)
    (opened_kept g v hand e c k h)

clauses_kept : (g : KoreSignature) (v : Valuation) (hand : List SortedName) (sort : KoreSort) (e : Equation) (n : ℕ) (o : Option ℕ) (cs : List (List Literal)) → IsStep g v hand e → OfKeptWhole g sort e (λ c. IsTrueUnder g v (written_clause g sort c) ↔ IsClauseTrue g v c) n o cs → AllByRecursion (AllByRecursion (Good g hand)) cs → AreTrue g v (solved_clauses g sort e n o cs) ↔ AreTrue g v cs
clauses_kept g v hand sort e n o [] k w h = ((λ a. a), (λ a. a))
clauses_kept g v hand sort e n (Some zero) (c ∷ cs) k w h = let j = clauses_kept g v hand sort e (n + length c) None cs k w h.1 in ((λ a. (a.0, j.0 a.1)), (λ a. (a.0, j.1 a.1)))
clauses_kept g v hand sort e n (Some (suc i)) (c ∷ cs) k w h =
    let first = solved_clause g sort e n c in
    let m = n + literals_in first in
    two_lists g v first (solved_clauses g sort e m (Some i) cs) (IsClauseTrue g v c) (AreTrue g v cs) (clause_kept g v hand sort e n c k w.0 h.0) (clauses_kept g v hand sort e m (Some i) cs k w.1 h.1)
clauses_kept g v hand sort e n None (c ∷ cs) k w h =
    let first = solved_clause g sort e n c in
    let m = n + literals_in first in
    two_lists g v first (solved_clauses g sort e m None cs) (IsClauseTrue g v c) (AreTrue g v cs) (clause_kept g v hand sort e n c k w.0 h.0) (clauses_kept g v hand sort e m None cs k w.1 h.1)

-- ---- states

one_literal_good : (g : KoreSignature) (v : Valuation) (hand : List SortedName) (c : List Literal) (l : Literal) → GivesSorts g v hand → AllByRecursion (Good g hand) c → c ≡ l ∷ [] → IsWellSortedAtom g l.atom × GivesSorts g v (atom_variables l.atom)
one_literal_good g v hand c l h a q = let i = (subst (AllByRecursion (Good g hand)) q a).0 in (i.0, at_hand_given g v hand (atom_variables l.atom) h i.1)

pub right_of : (g : KoreSignature) (s : SymbolicState) (o : Solvable) → IsSortedState g s → first_solvable g s ≡ Some o → IsRightEquation g s.variables o.equation
right_of g s o k q = let f = found_in g s o q in right_clause g s.variables f.clause o.equation (at_place (AllByRecursion (Good g s.variables)) o.place s.clauses f.clause k.literals f.stands) f.gives

pub step_instance : (g : KoreSignature) (v : Valuation) (s : SymbolicState) (o : Solvable) (u : Value) → IsSortedState g s → GivesSorts g v s.variables → first_solvable g s ≡ Some o → OfKeptAt g (IsWrittenRight g v) s o → IsStateInstance g v s u ↔ IsStateInstance g v (solved_at g o s) u
step_instance g v s o u k h q w =
    let e = o.equation in
    let hand = s.variables in
    let f = found_in g s o q in
    let good = at_place (AllByRecursion (Good g hand)) o.place s.clauses f.clause k.literals f.stands in
    let met : IsClauseTrue g v f.clause → IsMet g v e = λ t. met_clause g v f.clause e (λ l i. one_literal_good g v hand f.clause l h good i) t f.gives in
    let step : IsMet g v e → IsStep g v hand e = λ m. record { one = k.one_sort_each; right = right_of g s o k q; met = m; gives = h } in
    let clauses : IsMet g v e → AreTrue g v (solved_clauses g s.sort e 0 (Some o.place) s.clauses) ↔ AreTrue g v s.clauses = λ m. clauses_kept g v hand s.sort e 0 (Some o.place) s.clauses (step m) w k.literals in
    let term : IsMet g v e → term_instance g v (replaced g (replacement e) s.term) ≡ term_instance g v s.term = λ m. term_kept g v hand e s.sort s.term (step m) (k.term, k.term_at_hand) in
    let once = once_says g v (solved_clauses g s.sort e 0 (Some o.place) s.clauses) in (
      (λ i. let m = met (at_place (IsClauseTrue g v) o.place s.clauses f.clause i.clauses f.stands) in record { term = i.term ∙ sym (term m); clauses = once.1 ((clauses m).1 i.clauses) }),
      (λ i. let a = once.0 i.clauses in let m = met (at_place_still g (IsClauseTrue g v) s.sort e 0 o.place s.clauses f.clause a f.stands) in record { term = i.term ∙ term m; clauses = (clauses m).0 a }),
    )
