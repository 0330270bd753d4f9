-- What follows of two equalities with a side in common: the other sides are equal, where the clauses have the sorts of their places.
use Rattle.std.proofs.Common.{◌≡◌, refl, sym, ◌∙◌, subst, arith, ℕ, zero, suc, ◌<◌, ap, Bool, true, length, get_or, List, [], ◌∷◌, ◌++◌, map, Option, Some, None, Result, Ok, Err, IfOk, inl, inr}
use Rattle.std.specs.Prelude.{Vec, IfSome}
use Rattle.std.specs.List.{AllByRecursion, Contains}
use Rattle.std.specs.declared.alloc.Global.{Global}
use Rattle.std.proofs.lemmas.List.{map-append}
use Rattle.kp_kore.specs.Syntax.{KoreSort}
use Rattle.kp_kore.specs.Parts.{SortedName}
use Rattle.kp_kore.specs.Signature.{KoreSignature}
use Rattle.kp_kore.specs.Instance.{Valuation, GivesSorts}
use Rattle.kp_kore.proofs.ListLemmas.{all_append, all_left, all_right}
use Rattle.kp_symbolic.specs.Terms.{SymbolicTerm, term_instance, term_variables}
use Rattle.kp_symbolic.specs.States.{same, atom_variables, clause_variables, Literal, IsClauseTrue, AreTrue, SymbolicState, CanBeTrue}
use Rattle.kp_symbolic.specs.WellFormed.{IsWellSortedAtom, AreAtHand}
use Rattle.kp_symbolic.specs.Alike.{literals_same}
use Rattle.kp_symbolic.specs.Opening.{opened_same}
use Rattle.kp_symbolic.specs.Clauses.{distributed, is_too_large, without_repeats}
use Rattle.kp_symbolic.specs.View.{clause_view, clauses_view, state_view}
use Rattle.kp_symbolic.specs.declared.clause.Clause.{Clause}
use Rattle.kp_symbolic.specs.declared.state.State.{State}
use Rattle.kp_symbolic.proofs.Distribution.{kept_are}
use Rattle.kp_symbolic.proofs.Facts.{Good, GoodTerm, clauses_have, opened_same_good}
use Rattle.kp_symbolic.proofs.Leaf.{one_literal, formula_says, then_says, once_says}
use Rattle.kp_symbolic.proofs.CallOpening.{opened_same_says}
use Rattle.kp_symbolic.proofs.WellSorted.{term_given, term_sorted}
use Rattle.kp_symbolic_laws.specs.Runs.{IsSortedLiteral}
use Rattle.kp_symbolic_laws.proofs.Step.{at_hand_given}
use Rattle.kp_symbolic_laws.proofs.OpenedGood.{by_size}
use Rattle.kp_solving.specs.Further.{constrained}
use Rattle.kp_case_laws.specs.Courses.{Equality, equality_clauses}
use Rattle.kp_satisfiability.specs.Read.{HasSortedClauses}
use Rattle.kp_unify.specs.Replaced.{equality_of}
use Rattle.kp_unify.specs.Views.{signature_of}
use Rattle.kp_unify.specs.declared.part.Setting.{Setting}
use Rattle.kp_step.specs.Implied.{equality_alone, SaysEqual, IsSaidEqual, StandsAmong, AreSortedClauses, FollowFrom, CanBeAsWell, TellsNever}
use Rattle.kp_step.proofs.SortedLemmas.{has_sorted}

-- ---- which terms are equal

turned : (s : KoreSort) (t u : SymbolicTerm) (c : List Literal) → SaysEqual s t u c → SaysEqual s u t c
turned s t u c (inl e) = inr e
turned s t u c (inr e) = inl e

back : (cs : List (List Literal)) (s : KoreSort) (t u : SymbolicTerm) → IsSaidEqual cs s t u → IsSaidEqual cs s u t
back [] s t u e = e
back (c ∷ cs) s t u (inl e) = inl (turned s t u c e)
back (c ∷ cs) s t u (inr e) = inr (back cs s t u e)

-- an equality among the clauses equates its sides
among_equated : (cs : List (List Literal)) (e : Equality) → StandsAmong cs (equality_alone e) → IsSaidEqual cs e.sort e.left e.right
among_equated [] e i = i
among_equated (c ∷ cs) e (inl i) = inl (inl i)
among_equated (c ∷ cs) e (inr i) = inr (among_equated cs e i)

item_among : {A : Type 0} (v : A → List Literal) (xs : List A) (i : ℕ) (x : A) → i < length xs → x ≡ get_or xs i x → StandsAmong (map v xs) (v x)
item_among v [] i x h e = absurd (omega (arith, h))
item_among v (y ∷ xs) zero x h e = inl (subst (λ z. v z ≡ v x) e refl)
item_among v (y ∷ xs) (suc i) x h e = inr (item_among v xs i x (omega (arith, h)) e)

-- ---- what equated terms are

-- both have the sort, with their variables at hand
literal_good : (g : KoreSignature) (hand : List SortedName) (s : KoreSort) (t u : SymbolicTerm) → AllByRecursion (IsSortedLiteral g hand) (record { holds = true; atom = same s t u } ∷ []) → GoodTerm g hand s t × GoodTerm g hand s u
literal_good g hand s t u h =
    let l = h.0 in
    ((l.0.0, all_left (Contains hand) (term_variables t) (term_variables u) l.1), (l.0.1, all_right (Contains hand) (term_variables t) (term_variables u) l.1))

clause_good : (g : KoreSignature) (hand : List SortedName) (s : KoreSort) (t u : SymbolicTerm) (c : List Literal) → SaysEqual s t u c → AllByRecursion (IsSortedLiteral g hand) c → GoodTerm g hand s t × GoodTerm g hand s u
clause_good g hand s t u c (inl e) h = literal_good g hand s t u (subst (AllByRecursion (IsSortedLiteral g hand)) e h)
clause_good g hand s t u c (inr e) h = let k = literal_good g hand s u t (subst (AllByRecursion (IsSortedLiteral g hand)) e h) in (k.1, k.0)

equated_good : (g : KoreSignature) (hand : List SortedName) (cs : List (List Literal)) (s : KoreSort) (t u : SymbolicTerm) → IsSaidEqual cs s t u → AreSortedClauses g hand cs → GoodTerm g hand s t × GoodTerm g hand s u
equated_good g hand [] s t u e h = absurd e
equated_good g hand (c ∷ cs) s t u (inl e) h = clause_good g hand s t u c e h.0
equated_good g hand (c ∷ cs) s t u (inr e) h = equated_good g hand cs s t u e h.1

clause_says : (g : KoreSignature) (w : Valuation) (s : KoreSort) (t u : SymbolicTerm) (c : List Literal) → SaysEqual s t u c → IsClauseTrue g w c → term_instance g w t ≡ term_instance g w u
clause_says g w s t u c (inl e) h = (one_literal g w (record { holds = true; atom = same s t u })).0 (subst (IsClauseTrue g w) e h, tt)
clause_says g w s t u c (inr e) h = sym ((one_literal g w (record { holds = true; atom = same s u t })).0 (subst (IsClauseTrue g w) e h, tt))

equated_says : (g : KoreSignature) (w : Valuation) (cs : List (List Literal)) (s : KoreSort) (t u : SymbolicTerm) → IsSaidEqual cs s t u → AreTrue g w cs → term_instance g w t ≡ term_instance g w u
equated_says g w [] s t u e h = absurd e
equated_says g w (c ∷ cs) s t u (inl e) h = clause_says g w s t u c e h.0
equated_says g w (c ∷ cs) s t u (inr e) h = equated_says g w cs s t u e h.1

-- ---- the clauses of an equality

equality_sorted : (g : KoreSignature) (hand : List SortedName) (e : Equality) → GoodTerm g hand e.sort e.left → GoodTerm g hand e.sort e.right → AreSortedClauses g hand (equality_clauses g e)
equality_sorted g hand e i j =
    let f = opened_same g true true e.sort e.left e.right in
    by_size (AllByRecursion (Good g hand)) (is_too_large 0 f) (equality_alone e ∷ []) (distributed f)
    ((((i.0, j.0), all_append (Contains hand) (term_variables e.left) (term_variables e.right) i.1 j.1), tt), tt)
    (clauses_have (Good g hand) f (opened_same_good g hand true true e.sort e.left e.right i j))

equality_true : (g : KoreSignature) (hand : List SortedName) (w : Valuation) (e : Equality) → GoodTerm g hand e.sort e.left → GoodTerm g hand e.sort e.right → GivesSorts g w hand → term_instance g w e.left ≡ term_instance g w e.right → AreTrue g w (equality_clauses g e)
equality_true g hand w e i j sorts is =
    let f = opened_same g true true e.sort e.left e.right in
    let h = at_hand_given g w hand (term_variables e.left) sorts i.1 in
    let k = at_hand_given g w hand (term_variables e.right) sorts j.1 in
    let says = opened_same_says g w true true e.sort e.left e.right h k (term_given g w e.sort e.left i.0 h) (term_given g w e.sort e.right j.0 k) (term_sorted g w e.sort e.left i.0 h) (term_sorted g w e.sort e.right j.0 k) in
    by_size (IsClauseTrue g w) (is_too_large 0 f) (equality_alone e ∷ []) (distributed f) ((one_literal g w (record { holds = true; atom = same e.sort e.left e.right })).1 is) ((then_says (formula_says g w f) says).1 is)

-- ---- what follows

-- what is equal to one term is equal
others_follow : (g : KoreSignature) (cs : List (List Literal)) (s : KoreSort) (t u v : SymbolicTerm) → IsSaidEqual cs s t u → IsSaidEqual cs s t v → FollowFrom g cs (equality_clauses g (equality_of s u v))
others_follow g cs s t u v e f = record {
  sorted = λ hand h. equality_sorted g hand (equality_of s u v) (equated_good g hand cs s t u e h).1 (equated_good g hand cs s t v f h).1;
  are_true = λ hand w h sorts holds.
      equality_true g hand w (equality_of s u v) (equated_good g hand cs s t u e h).1 (equated_good g hand cs s t v f h).1 sorts (sym (equated_says g w cs s t u e holds) ∙ equated_says g w cs s t v f holds);
}

both_follow : (g : KoreSignature) (cs first second : List (List Literal)) → FollowFrom g cs first → FollowFrom g cs second → FollowFrom g cs (first ++ second)
both_follow g cs first second i j = record {
  sorted = λ hand h. all_append (AllByRecursion (IsSortedLiteral g hand)) first second (i.sorted hand h) (j.sorted hand h);
  are_true = λ hand w h sorts t. all_append (IsClauseTrue g w) first second (i.are_true hand w h sorts t) (j.are_true hand w h sorts t);
}

-- the same of the code's clauses
both_lists : (g : KoreSignature) (cs : List (List Literal)) (first second all : List Clause) → all ≡ first ++ second → FollowFrom g cs (clauses_view first) → FollowFrom g cs (clauses_view second) → FollowFrom g cs (clauses_view all)
both_lists g cs first second all e i j =
    subst (FollowFrom g cs) (sym (ap clauses_view e ∙ map-append clause_view first second)) (both_follow g cs (clauses_view first) (clauses_view second) i j)

pub side_follows : {E : Type 0} (g : KoreSignature) (cs : List (List Literal)) (s : KoreSort) (t u v : SymbolicTerm) (r : Result (Vec Clause Global) E) → IsSaidEqual cs s t u → IfOk r (λ more. clauses_view more.items ≡ equality_clauses g (equality_of s u v)) →
    IfOk r (λ more. IsSaidEqual cs s t v → FollowFrom g cs (clauses_view more.items))
side_follows g cs s t u v (Ok more) e is = λ f. subst (FollowFrom g cs) (sym is) (others_follow g cs s t u v e f)
side_follows g cs s t u v (Err x) e is = tt

pub sides_follow : (g : KoreSignature) (cs : List (List Literal)) (e : Equality) (first second all : List Clause) → all ≡ first ++ second → (IsSaidEqual cs e.sort e.left e.right → FollowFrom g cs (clauses_view first)) →
    (IsSaidEqual cs e.sort e.right e.left → FollowFrom g cs (clauses_view second)) → StandsAmong cs (equality_alone e) → FollowFrom g cs (clauses_view all)
sides_follow g cs e first second all is i j among =
    let k = among_equated cs e among in
    both_lists g cs first second all is (i k) (j (back cs e.sort e.left e.right k))

-- of one clause more
pub more_follow : (g : KoreSignature) (clauses : List Clause) (i : ℕ) (c : Clause) (found more all : List Clause) → i < length clauses → c ≡ get_or clauses i c → all ≡ found ++ more → (StandsAmong (clauses_view clauses) (clause_view c) → FollowFrom g (clauses_view clauses) (clauses_view more)) →
    FollowFrom g (clauses_view clauses) (clauses_view found) → FollowFrom g (clauses_view clauses) (clauses_view all)
more_follow g clauses i c found more all h e is k was = both_lists g (clauses_view clauses) found more all is was (k (item_among clause_view clauses i c h e))

-- ---- the state with what follows

clause_sorted : (g : KoreSignature) (hand : List SortedName) (c : List Literal) → AllByRecursion (λ l. IsWellSortedAtom g l.atom) c → AreAtHand (clause_variables c) hand → AllByRecursion (IsSortedLiteral g hand) c
clause_sorted g hand [] i j = tt
clause_sorted g hand (l ∷ c) i j = ((i.0, all_left (Contains hand) (atom_variables l.atom) (clause_variables c) j), clause_sorted g hand c i.1 (all_right (Contains hand) (atom_variables l.atom) (clause_variables c) j))

clauses_sorted : (g : KoreSignature) (hand : List SortedName) (cs : List (List Literal)) → AllByRecursion (AllByRecursion (λ l. IsWellSortedAtom g l.atom)) cs → AllByRecursion (λ c. AreAtHand (clause_variables c) hand) cs → AreSortedClauses g hand cs
clauses_sorted g hand [] i j = tt
clauses_sorted g hand (c ∷ cs) i j = (clause_sorted g hand c i.0 j.0, clauses_sorted g hand cs i.1 j.1)

are_sorted : (g : KoreSignature) (s : SymbolicState) → HasSortedClauses g s → AreSortedClauses g s.variables s.clauses
are_sorted g s k = clauses_sorted g s.variables s.clauses k.literals k.clauses_at_hand

constrained_sorted : (g : KoreSignature) (s : SymbolicState) (more : List (List Literal)) → FollowFrom g s.clauses more → HasSortedClauses g s → HasSortedClauses g (constrained s more)
constrained_sorted g s more f k =
    let own = are_sorted g s k in
    let all = all_append (AllByRecursion (IsSortedLiteral g s.variables)) s.clauses more own (f.sorted s.variables own) in
    has_sorted g (constrained s more) (kept_are literals_same (AllByRecursion (IsSortedLiteral g s.variables)) [] 0 (s.clauses ++ more) all) k.one_sort_each

constrained_can : (g : KoreSignature) (s : SymbolicState) (more : List (List Literal)) → FollowFrom g s.clauses more → HasSortedClauses g s → CanBeTrue g s.variables s.clauses → CanBeTrue g s.variables (without_repeats (s.clauses ++ more))
constrained_can g s more f k can = record {
  valuation = can.valuation;
  sorts = can.sorts;
  are_true = (once_says g can.valuation (s.clauses ++ more)).1
      (all_append (IsClauseTrue g can.valuation) s.clauses more can.are_true (f.are_true s.variables can.valuation (are_sorted g s k) can.sorts can.are_true));
}

can_as_well : (g : KoreSignature) (s : SymbolicState) (more : List (List Literal)) → FollowFrom g s.clauses more → CanBeAsWell g s (constrained s more)
can_as_well g s more f = record { sorted = constrained_sorted g s more f; can_be = constrained_can g s more f }

-- where the state is grown by them
pub constrained_as_well : {E : Type 0} (g : KoreSignature) (s : SymbolicState) (cs : List Clause) (more found : List Clause) (x : Result (Option State) E) → clauses_view cs ≡ s.clauses → FollowFrom g (clauses_view cs) (clauses_view found) → more ≡ found →
    IfOk x (λ o. IfSome o (λ r. state_view r ≡ constrained s (clauses_view more))) → IfOk x (λ o. IfSome o (λ r. CanBeAsWell g s (state_view r)))
constrained_as_well g s cs more found (Ok (Some r)) e f alike is =
    subst (CanBeAsWell g s) (sym (is ∙ ap (λ xs. constrained s (clauses_view xs)) alike)) (can_as_well g s (clauses_view found) (subst (λ xs. FollowFrom g xs (clauses_view found)) e f))
constrained_as_well g s cs more found (Ok None) e f alike is = tt
constrained_as_well g s cs more found (Err x) e f alike is = tt

pub as_well_itself : (g : KoreSignature) (s : SymbolicState) → CanBeAsWell g s s
as_well_itself g s = record { sorted = λ k. k; can_be = λ k can. can }

pub as_well_on : (g : KoreSignature) (s r x : SymbolicState) → CanBeAsWell g s r → CanBeAsWell g r x → CanBeAsWell g s x
as_well_on g s r x i j = record { sorted = λ k. j.sorted (i.sorted k); can_be = λ k can. j.can_be (i.sorted k) (i.can_be k can) }

-- where that can't be true, the state's can't
pub never_through : {E : Type 0} (setting : Setting) (s r : State) (x : Result Bool E) → CanBeAsWell (signature_of setting) (state_view s) (state_view r) → TellsNever setting r x → TellsNever setting s x
never_through setting s r (Ok b) k never = λ sorted yes can. never (k.sorted sorted) yes (k.can_be sorted can)
never_through setting s r (Err e) k never = tt
