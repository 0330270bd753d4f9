-- A state with the sorts of its places keeps them where terms of the variables' sorts stand in their places, and its variables
-- are at hand.
use Rattle.std.proofs.Common.{◌≡◌, refl, sym, ◌∙◌, subst, ℕ, ◌+◌, Bool, true, false, not, ◌&&◌, ◌||◌, List, [], ◌∷◌, ◌++◌, Some, None}
use Rattle.std.specs.Prelude.{if◌then◌else◌}
use Rattle.std.specs.Bool.{beq}
use Rattle.std.specs.Option.{is_some}
use Rattle.std.specs.List.{AllByRecursion, Contains, filter, flat_map, list_any}
use Rattle.std.specs.Str.{bytes_eq}
use Rattle.std.proofs.lemmas.List.{append_assoc}
use Rattle.std.proofs.lemmas.List.Elements.{All-from_recursion, recursion_from_All, All-contains, All-contains_itself, All-weaker, Contains-append_left, Contains-append_right, Contains-push}
use Rattle.std.proofs.lemmas.Slice.Eq.{bytes_eq-Decides}
use Rattle.kp_kore.specs.Syntax.{Text, KoreSort, KorePattern}
use Rattle.kp_kore.specs.Parts.{SortedName, free_variables}
use Rattle.kp_kore.specs.Signature.{KoreSignature, SymbolMeaning, injection, construction, interpretation, foreign, meaning_of, constructor_of, integers, itself}
use Rattle.kp_kore.specs.Value.{head_of}
use Rattle.kp_kore.specs.Instance.{is_named}
use Rattle.kp_symbolic.specs.Terms.{SymbolicTerm, unknown, offset, known, headed, term_variables, Replaced, replacement_for}
use Rattle.kp_symbolic.specs.Formulas.{Formula}
use Rattle.kp_symbolic.specs.States.{HeadTest, Atom, same, has_head, quoted, atom_variables, variables_for, Literal, clause_variables, SymbolicState}
use Rattle.kp_symbolic.specs.WellFormed.{IsWellSortedAtom, AreWellPlaced, AreAtHand, stands_in_terms}
use Rattle.kp_symbolic.specs.Folding.{replaced}
use Rattle.kp_symbolic.specs.Heads.{passes_head, head_answer}
use Rattle.kp_symbolic.specs.Opening.{fixed, literal_fact, head_of_call, opened_test}
use Rattle.kp_symbolic.specs.Alike.{literals_same}
use Rattle.kp_symbolic.specs.Clauses.{distributed, is_too_large}
use Rattle.kp_symbolic.specs.Writing.{written_clause}
use Rattle.kp_symbolic.specs.Solving.{is_single, literals_in}
use Rattle.kp_symbolic.proofs.Distribution.{all_both, all_first, all_second, kept_are}
use Rattle.kp_symbolic.proofs.Folded.{OfEach}
use Rattle.kp_symbolic.proofs.Replacing.{replaced_variables}
use Rattle.kp_symbolic.proofs.WellSorted.{sorted_written}
use Rattle.kp_symbolic.proofs.SortedFolding.{replaced_sorted}
use Rattle.kp_symbolic.proofs.Facts.{AllFacts, AllIn, clauses_have, Good, GoodTerm, opened_same_good, fixed_or_good}
use Rattle.kp_symbolic.proofs.Leaf.{named_here}
use Rattle.kp_symbolic.proofs.KeptFacts.{opened_by}
use Rattle.kp_symbolic_laws.specs.Runs.{HasOneSortEach, IsSortedState, IsPredicateAtom}
use Rattle.kp_symbolic_laws.proofs.Keeping.{IsPut}
use Rattle.kp_symbolic_laws.proofs.WrittenVariables.{written_of_these}
use Rattle.kp_clause_substitution.specs.Replacing.{with_terms, beside, opened_under, all_opened_under, clause_under}
use Rattle.kp_clause_substitution.specs.Substituted.{substituted_clause, substituted_clauses, substituted}
use Rattle.kp_clause_substitution.proofs.StateLemmas.{filtered_for}
use Rattle.kp_solving.specs.Holding.{holds_one, quoted_under}
use Rattle.kp_solving.specs.Placing.{CanBePlaced, HasPredicates, HasOneSortThen}

-- ---- what is put in the variables' places

abbrev variables_in : List Replaced → List SortedName → List SortedName
variables_in qs xs = flat_map (λ x. variables_for x (replacement_for qs x.name)) xs

abbrev Put : KoreSignature → List Replaced → List SortedName → SortedName → Type 0
Put g qs new x = IsPut g new x (replacement_for qs x.name)

each_in : (new xs : List SortedName) → ((y : SortedName) → Contains xs y → Contains new y) → AreAtHand xs new
each_in new xs f = recursion_from_All (λ x. Contains new x) xs (All-weaker (Contains xs) (λ x. Contains new x) f xs (All-contains_itself xs))

all_put : (g : KoreSignature) (qs : List Replaced) (new xs : List SortedName) → AreWellPlaced g qs xs → ((y : SortedName) → Contains (variables_in qs xs) y → Contains new y) → AllByRecursion (Put g qs new) xs
all_put g qs new [] p f = tt
all_put g qs new (x ∷ xs) p f =
    let these = variables_for x (replacement_for qs x.name) in
    let others = variables_in qs xs in
    ((p.0, each_in new these (λ y c. f y (Contains-append_left these others y c))), all_put g qs new xs p.1 (λ y c. f y (Contains-append_right these others y c)))

-- what is put in the place of those at hand is put in the place of these
one_put : (g : KoreSignature) (qs : List Replaced) (hand new : List SortedName) (x : SortedName) → AllByRecursion (Put g qs new) hand → Contains hand x → Put g qs new x
one_put g qs hand new x h c = All-contains (Put g qs new) hand x (All-from_recursion (Put g qs new) hand h) c

all_placed : (g : KoreSignature) (qs : List Replaced) (hand new xs : List SortedName) → AllByRecursion (Put g qs new) hand → AreAtHand xs hand → AreWellPlaced g qs xs
all_placed g qs hand new [] h a = tt
all_placed g qs hand new (x ∷ xs) h a = ((one_put g qs hand new x h a.0).0, all_placed g qs hand new xs h a.1)

all_given : (g : KoreSignature) (qs : List Replaced) (hand new xs : List SortedName) → AllByRecursion (Put g qs new) hand → AreAtHand xs hand → OfEach qs (λ x. Contains new x) xs
all_given g qs hand new [] h a = tt
all_given g qs hand new (x ∷ xs) h a = ((one_put g qs hand new x h a.0).1, all_given g qs hand new xs h a.1)

put_in : (g : KoreSignature) (qs : List Replaced) (hand new : List SortedName) (s : KoreSort) (t : SymbolicTerm) → AllByRecursion (Put g qs new) hand → GoodTerm g hand s t → GoodTerm g new s (replaced g qs t)
put_in g qs hand new s t h i = (
  replaced_sorted g qs s t i.0 (all_placed g qs hand new (term_variables t) h i.1),
  replaced_variables g qs (λ x. Contains new x) t (sorted_written g s t i.0) (all_given g qs hand new (term_variables t) h i.1),
)

-- ---- tests of heads

fixed_good : (P : Literal → Type 0) (b : Bool) → AllFacts P (fixed b)
fixed_good P true = tt
fixed_good P false = tt

test_by : (g : KoreSignature) (P : Literal → Type 0) (b : Bool) (test : HeadTest) (kept : Formula Literal) (f : Text) (m : SymbolMeaning) → stands_in_terms m ≡ true → AllFacts P (opened_by g b test kept f m)
test_by g P b test kept f construction w = fixed_good P (beq (passes_head g test (constructor_of f)) b)
test_by g P b test kept f (interpretation h) w = fixed_good P (beq (passes_head g test (head_of_call h)) b)
test_by g P b test kept f injection w = absurd (cc)
test_by g P b test kept f foreign w = absurd (cc)

-- a test of a well-sorted term is decided, or asks for the head of a variable of the term
test_good : (g : KoreSignature) (new : List SortedName) (b : Bool) (s : KoreSort) (test : HeadTest) (kept : Formula Literal) (t : SymbolicTerm) → GoodTerm g new s t → AllFacts (Good g new) (opened_test g b test kept t)
test_good g new b s test kept (unknown x) a = fixed_or_good (Good g new) (head_answer g x.sort test) b (literal_fact b (has_head x test)) (tt, (a.1.0, tt))
test_good g new b s test kept (offset x c) a = fixed_good (Good g new) (beq (passes_head g test integers) b)
test_good g new b s test kept (known u) a = fixed_good (Good g new) (beq (passes_head g test (head_of u)) b)
test_good g new b s test kept (headed f ts) a = test_by g (Good g new) b test kept f (meaning_of g f) a.0.0

-- ---- quoted predicates

-- in the place of a variable stands the term that stood there, with the terms put in it, or else the one that is put there
after_put : (g : KoreSignature) (qs : List Replaced) (hand new : List SortedName) (rs tail : List Replaced) (x : SortedName) → AllByRecursion (Put g qs new) hand → IsPut g hand x (replacement_for rs x.name) →
    (replacement_for rs x.name ≡ None → IsPut g new x (replacement_for tail x.name)) → IsPut g new x (replacement_for (with_terms g qs rs ++ tail) x.name)
after_put g qs hand new [] tail x h i k = k refl
after_put g qs hand new (q ∷ rs) tail x h i k = by (bytes_eq q.name x.name) i k (λ j l. after_put g qs hand new rs tail x h j l)
  where
    by : (b : Bool) → IsPut g hand x (if b then Some q.term else replacement_for rs x.name) → ((if b then Some q.term else replacement_for rs x.name) ≡ None → IsPut g new x (replacement_for tail x.name))
        → (IsPut g hand x (replacement_for rs x.name) → (replacement_for rs x.name ≡ None → IsPut g new x (replacement_for tail x.name)) → IsPut g new x (replacement_for (with_terms g qs rs ++ tail) x.name))
        → IsPut g new x (if b then Some (replaced g qs q.term) else replacement_for (with_terms g qs rs ++ tail) x.name)
    by true j l f = put_in g qs hand new x.sort q.term h j
    by false j l f = f j l

abbrev is_new : KorePattern → List Replaced → Text → Bool
is_new p rs y = is_named y (free_variables p) && not (is_some (replacement_for rs y))

beside_put : (g : KoreSignature) (qs : List Replaced) (hand new : List SortedName) (p : KorePattern) (rs : List Replaced) (x : SortedName) → AllByRecursion (Put g qs new) hand → is_named x.name (free_variables p) ≡ true → IsPut g hand x (replacement_for rs x.name) → IsPut g new x (replacement_for (beside g qs p rs) x.name)
beside_put g qs hand new p rs x h named i = after_put g qs hand new rs (filter (λ q. is_new p rs q.name) qs) x h i
    (λ none. subst (IsPut g new x) (sym (filtered_for (is_new p rs) qs x.name (rw (named, none) refl)))
    (one_put g qs hand new x h (subst (λ o. AreAtHand (variables_for x o) hand) none i.1).0))

-- what is told of each variable that is named is told of all that stand for them
all_named : (g : KoreSignature) (hand new : List SortedName) (rs bs : List Replaced) (all before xs : List SortedName) → before ++ xs ≡ all → ((x : SortedName) → is_named x.name all ≡ true → IsPut g hand x (replacement_for rs x.name) → IsPut g new x (replacement_for bs x.name)) →
    AreWellPlaced g rs xs → AreAtHand (variables_in rs xs) hand → AreWellPlaced g bs xs × AreAtHand (variables_in bs xs) new
all_named g hand new rs bs all before [] e f w a = (tt, tt)
all_named g hand new rs bs all before (x ∷ xs) e f w a =
    let At = λ (y : SortedName). Contains hand y in
    let NewAt = λ (y : SortedName). Contains new y in
    let here = f x (subst (λ ys. is_named x.name ys ≡ true) e (named_here x before xs)) (w.0, all_first At (variables_for x (replacement_for rs x.name)) (variables_in rs xs) a) in
    let rest = all_named g hand new rs bs all (before ++ x ∷ []) xs (append_assoc before (x ∷ []) xs ∙ e) f w.1 (all_second At (variables_for x (replacement_for rs x.name)) (variables_in rs xs) a) in
    ((here.0, rest.0), all_both NewAt (variables_for x (replacement_for bs x.name)) (variables_in bs xs) here.1 rest.1)

-- ---- literals

atom_keeps : (g : KoreSignature) (qs : List Replaced) (hand new : List SortedName) (alone b : Bool) (a : Atom) → AllByRecursion (Put g qs new) hand → IsWellSortedAtom g a × AreAtHand (atom_variables a) hand → AllFacts (Good g new) (opened_under g qs alone b a)
atom_keeps g qs hand new alone b (same s t u) h i =
    let At = λ (x : SortedName). Contains hand x in
    opened_same_good g new alone b s (replaced g qs t) (replaced g qs u)
    (put_in g qs hand new s t h (i.0.0, all_first At (term_variables t) (term_variables u) i.1))
    (put_in g qs hand new s u h (i.0.1, all_second At (term_variables t) (term_variables u) i.1))
atom_keeps g qs hand new alone b (has_head x test) h i = test_good g new b x.sort test (literal_fact b (has_head x test)) (replaced g qs (unknown x)) (put_in g qs hand new x.sort (unknown x) h (itself x.sort, i.1))
atom_keeps g qs hand new alone b (quoted p rs) h i = all_named g hand new rs (beside g qs p rs) (free_variables p) [] (free_variables p) refl (λ x named j. beside_put g qs hand new p rs x h named j) i.0 i.1

literals_keep : (g : KoreSignature) (qs : List Replaced) (hand new : List SortedName) (alone : Bool) (c : List Literal) → AllByRecursion (Put g qs new) hand → AllByRecursion (Good g hand) c → AllIn (Good g new) (all_opened_under g qs alone c)
literals_keep g qs hand new alone [] h i = tt
literals_keep g qs hand new alone (l ∷ c) h i = (atom_keeps g qs hand new alone l.holds l.atom h i.0, literals_keep g qs hand new alone c h i.1)

-- ---- a clause in which none of the variables stands

or_first : (a b : Bool) → a || b ≡ false → a ≡ false
or_first true b e = e
or_first false b e = refl

or_second : (a b : Bool) → a || b ≡ false → b ≡ false
or_second true b e = absurd (cc)
or_second false b e = e

turned : (x y : Text) → bytes_eq x y ≡ false → bytes_eq y x ≡ false
turned x y e = by (bytes_eq y x) refl
  where
    by : (b : Bool) → bytes_eq y x ≡ b → b ≡ false
    by false i = refl
    by true i = absurd (apart (sym ((bytes_eq-Decides x y).1 (sym ((bytes_eq-Decides y x).0 i))) ∙ e))
      where
        apart : true ≡ false → ⊥
        apart h = cc

not_named : (y : Text) (x : SortedName) (xs : List SortedName) → is_named y xs ≡ false → Contains xs x → bytes_eq y x.name ≡ false
not_named y x xs e c = turned x.name y (All-contains (λ z. bytes_eq z.name y ≡ false) xs x (All-from_recursion (λ z. bytes_eq z.name y ≡ false) xs (each xs e)) c)
  where
    each : (zs : List SortedName) → is_named y zs ≡ false → AllByRecursion (λ z. bytes_eq z.name y ≡ false) zs
    each [] e = tt
    each (z ∷ zs) e = (or_first (bytes_eq z.name y) (is_named y zs) e, each zs (or_second (bytes_eq z.name y) (is_named y zs) e))

none_stands : (qs : List Replaced) (x : SortedName) (xs : List SortedName) → list_any (λ q. is_named q.name xs) qs ≡ false → Contains xs x → replacement_for qs x.name ≡ None
none_stands [] x xs e c = refl
none_stands (q ∷ qs) x xs e c = rw (not_named q.name x xs (or_first (is_named q.name xs) (list_any (λ r. is_named r.name xs) qs) e) c) (none_stands qs x xs (or_second (is_named q.name xs) (list_any (λ r. is_named r.name xs) qs) e) c)

still_at_hand : (g : KoreSignature) (qs : List Replaced) (hand new xs ys : List SortedName) → AllByRecursion (Put g qs new) hand → list_any (λ q. is_named q.name xs) qs ≡ false → ((y : SortedName) → Contains ys y → Contains xs y) → AreAtHand ys hand → AreAtHand ys new
still_at_hand g qs hand new xs [] h e f a = tt
still_at_hand g qs hand new xs (y ∷ ys) h e f a = (
  (subst (λ o. AreAtHand (variables_for y o) new) (none_stands qs y xs e (f y (Contains-append_left (y ∷ []) ys y (Contains-push [] y)))) (one_put g qs hand new y h a.0).1).0,
  still_at_hand g qs hand new xs ys h e (λ z c. f z (Contains-append_right (y ∷ []) ys z c)) a.1,
)

clause_stays : (g : KoreSignature) (qs : List Replaced) (hand new xs : List SortedName) (c : List Literal) → AllByRecursion (Put g qs new) hand → list_any (λ q. is_named q.name xs) qs ≡ false → ((y : SortedName) → Contains (clause_variables c) y → Contains xs y) → AllByRecursion (Good g hand) c → AllByRecursion (Good g new) c
clause_stays g qs hand new xs [] h e f i = tt
clause_stays g qs hand new xs (l ∷ c) h e f i =
    let these = atom_variables l.atom in
    let others = clause_variables c in (
      (i.0.0, still_at_hand g qs hand new xs these h e (λ y k. f y (Contains-append_left these others y k)) i.0.1),
      clause_stays g qs hand new xs c h e (λ y k. f y (Contains-append_right these others y k)) i.1,
    )

-- ---- clauses

-- a clause that stays one literal, where what is written for it has no variables but those at hand
quoted_good : (g : KoreSignature) (qs : List Replaced) (hand new : List SortedName) (p : KorePattern) → AllByRecursion (Put g qs new) hand → AreAtHand (free_variables p) hand → AllByRecursion (Good g new) (quoted_under qs p)
quoted_good g qs hand new p h a =
    let xs = free_variables p in (
      all_named g hand new [] (filter (λ q. is_named q.name xs) qs) xs [] xs refl
          (λ x named j. subst (IsPut g new x) (sym (filtered_for (λ y. is_named y xs) qs x.name named)) (one_put g qs hand new x h j.1.0))
          (each_itself xs) (each_stands xs a),
      tt,
    )
  where
    each_itself : (xs : List SortedName) → AreWellPlaced g [] xs
    each_itself [] = tt
    each_itself (x ∷ xs) = (itself x.sort, each_itself xs)

    each_stands : (xs : List SortedName) → AreAtHand xs hand → AreAtHand (variables_in [] xs) hand
    each_stands [] a = tt
    each_stands (x ∷ xs) a = (a.0, each_stands xs a.1)

by_case : (R : List (List Literal) → Type 0) (b d : Bool) (c k : List Literal) (ds : List (List Literal)) → (b ≡ false → R (c ∷ [])) → R (k ∷ []) → R ds → R (if not b then c ∷ [] else if d then k ∷ [] else ds)
by_case R false d c k ds i j l = i refl
by_case R true true c k ds i j l = j
by_case R true false c k ds i j l = l

clause_keeps : (g : KoreSignature) (qs : List Replaced) (hand new : List SortedName) (sort : KoreSort) (n : ℕ) (c : List Literal) → AllByRecursion (Put g qs new) hand → AreAtHand (free_variables (written_clause g sort c)) hand → AllByRecursion (Good g hand) c →
    AllByRecursion (AllByRecursion (Good g new)) (substituted_clause g sort qs n c)
clause_keeps g qs hand new sort n c h a i = by_case (AllByRecursion (AllByRecursion (Good g new))) (holds_one qs c) (is_too_large n (clause_under g qs c)) c (quoted_under qs (written_clause g sort c)) (distributed (clause_under g qs c))
    (λ e. (clause_stays g qs hand new (clause_variables c) c h e (λ y k. k) i, tt))
    (quoted_good g qs hand new (written_clause g sort c) h a, tt)
    (clauses_have (Good g new) (clause_under g qs c) (literals_keep g qs hand new (is_single c) c h i))

clauses_keep : (g : KoreSignature) (qs : List Replaced) (hand new : List SortedName) (sort : KoreSort) (n : ℕ) (cs : List (List Literal)) → AllByRecursion (Put g qs new) hand → AllByRecursion (λ c. AreAtHand (free_variables (written_clause g sort c)) hand) cs → AllByRecursion (AllByRecursion (Good g hand)) cs →
    AllByRecursion (AllByRecursion (Good g new)) (substituted_clauses g sort qs n cs)
clauses_keep g qs hand new sort n [] h a i = tt
clauses_keep g qs hand new sort n (c ∷ cs) h a i =
    let first = substituted_clause g sort qs n c in
    let m = n + literals_in first in
    all_both (AllByRecursion (Good g new)) first (substituted_clauses g sort qs m cs) (clause_keeps g qs hand new sort n c h a.0 i.0) (clauses_keep g qs hand new sort m cs h a.1 i.1)

-- ---- states

state_keeps : (g : KoreSignature) (qs : List Replaced) (s : SymbolicState) → IsSortedState g s → AllByRecursion (λ c. AreAtHand (free_variables (written_clause g s.sort c)) s.variables) s.clauses → AreWellPlaced g qs s.variables → HasOneSortEach (substituted g qs s).variables → IsSortedState g (substituted g qs s)
state_keeps g qs s w a p one =
    let new = (substituted g qs s).variables in
    let h = all_put g qs new s.variables p (λ y c. c) in
    let term = put_in g qs s.variables new s.sort s.term h (w.term, w.term_at_hand) in
    record {
      term = term.0;
      term_at_hand = term.1;
      literals = kept_are literals_same (AllByRecursion (Good g new)) [] 0 (substituted_clauses g s.sort qs 0 s.clauses) (clauses_keep g qs s.variables new s.sort 0 s.clauses h a w.literals);
      one_sort_each = one;
    }

-- what is written for a clause of predicates has no variables but those at hand
all_of_these : (g : KoreSignature) (s : SymbolicState) (cs : List (List Literal)) → AllByRecursion (AllByRecursion (Good g s.variables)) cs → AllByRecursion (AllByRecursion (λ l. IsPredicateAtom l.atom)) cs → AllByRecursion (λ c. AreAtHand (free_variables (written_clause g s.sort c)) s.variables) cs
all_of_these g s [] w i = tt
all_of_these g s (c ∷ cs) w i = (written_of_these g s c w.0 i.0, all_of_these g s cs w.1 i.1)

pub sorted_kept : (g : KoreSignature) (qs : List Replaced) (s : SymbolicState) → CanBePlaced g qs s → HasPredicates s → HasOneSortThen g qs s → IsSortedState g (substituted g qs s)
sorted_kept g qs s can i one = state_keeps g qs s can.sorted (all_of_these g s s.clauses can.sorted.literals i) can.placed one
