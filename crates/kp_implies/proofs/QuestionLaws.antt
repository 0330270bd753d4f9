-- Two verified sides without a fault are a question.
use Rattle.std.specs.Prelude.{◌⊎◌, Bool, true, false, not, ◌&&◌, ◌||◌, List, Option, Some, None, if◌then◌else◌}
use Rattle.std.specs.List.{AllByRecursion, Contains, filter, find, flat_map, list_any}
use Rattle.std.specs.Option.{option_map, is_some}
use Rattle.std.specs.Str.{bytes_eq}
use Rattle.std.proofs.Common.{◌≡◌, refl, sym, ◌∙◌, ap, ap₂, subst, arith, inl, inr, [], ◌∷◌, ◌++◌}
use Rattle.std.proofs.lemmas.List.Elements.{Contains-append_cases, Contains-append_left, Contains-append_right, Contains-push}
use Rattle.std.proofs.lemmas.List.Folds.{list_any-append}
use Rattle.std.proofs.lemmas.Slice.Eq.{bytes_eq-Decides}
use Rattle.kp_kore.specs.Syntax.{Text, KoreSort, KorePattern, exists, variable, literal, application}
use Rattle.kp_kore.specs.Attributes.{sorts_equal}
use Rattle.kp_kore.specs.Parts.{SortedName, is_term, free_variables, variable_names}
use Rattle.kp_kore.specs.Signature.{KoreSignature}
use Rattle.kp_kore.specs.Sorting.{sort_of_term}
use Rattle.kp_kore.specs.Instance.{is_named, is_predicate, conjuncts, conjoined_terms, conjoined_predicates}
use Rattle.kp_kore.specs.Foreign.{none_within, has_foreign_head}
use Rattle.kp_kore.specs.Rules.{only_one, top_binders, under_binders, have_distinct_names}
use Rattle.kp_kore.specs.Implied.{IsOfSort}
use Rattle.kp_kore.specs.Steps.{AnyByRecursion}
use Rattle.kp_kore.specs.Sides.{HasOneTerm, is_unclear, first_unclear}
use Rattle.kp_kore.proofs.ListLemmas.{all_append, all_map}
use Rattle.kp_kore.proofs.NameLemmas.{members_named, same_bytes, true_is_false, first_false, second_false}
use Rattle.kp_kore.proofs.SameLemmas.{sorts_equal-Decides}
use Rattle.kp_kore.proofs.StandingNames.{free_stands_names}
use Rattle.kp_kore.proofs.TurnLemmas.{of_member, each_member}
use Rattle.kp_signature.specs.Places.{Place, the_top, own_sort, part_at, under_binder, sort_in_scope}
use Rattle.kp_signature.specs.Verify.{first_fault, fault_at, VerifiesAs}
use Rattle.kp_signature.proofs.FaultLemmas.{nothing_later}
use Rattle.kp_signature.proofs.ListLemmas.{all_filtered}
use Rattle.kp_signature.proofs.OneSort.{agrees}
use Rattle.kp_signature.proofs.VariableSorts.{HasItsSort}
use Rattle.kp_symbolic.specs.States.{SymbolicState, HasInstancesOf, Literal, atom_variables}
use Rattle.kp_symbolic.specs.Solving.{Solving, finished, goes_on, solved_at, opened_state, IsReadAs}
use Rattle.kp_symbolic.specs.Terms.{term_variables}
use Rattle.kp_symbolic.specs.WellFormed.{AreAtHand}
use Rattle.kp_symbolic.proofs.OpenedState.{opened_as, placed_as_they_are}
use Rattle.kp_symbolic_laws.specs.Kept.{CanBeWritten}
use Rattle.kp_symbolic_laws.specs.Runs.{HasOneSortEach, IsSortedLiteral, OfEachKept}
use Rattle.kp_symbolic_laws.specs.Safe.{IsSafe, IsSoundQuote}
use Rattle.kp_symbolic_laws.proofs.FormedSteps.{opened_formed}
use Rattle.kp_symbolic_laws.proofs.KeptCourse.{solving_safe, read_kept}
use Rattle.kp_symbolic_laws.proofs.ReadState.{IsMember, members, opened_sorted}
use Rattle.kp_symbolic_laws.proofs.Sound.{sound}
use Rattle.kp_compile.specs.Spelled.{first_foreign}
use Rattle.kp_clauses.specs.Faults.{foreign_symbol, state_fault}
use Rattle.kp_clauses.proofs.StateLemmas.{nothing_misplaced}
use Rattle.kp_unify.specs.Way.{IsInUse}
use Rattle.kp_step.specs.Ready.{IsReadyState}
use Rattle.kp_sides.specs.Sides.{side_fault, first_idle, AreComparable}
use Rattle.kp_goals.specs.Consequents.{Consequent, IsConsequent, beside}
use Rattle.kp_goals.specs.Exact.{AreClear, IsVerifiedOf, IsPredicateOf}
use Rattle.kp_implies.specs.Promises.{IsQuestion}
use Rattle.kp_implies.proofs.Matching.{one_sort_of_both}

-- ---- lists

first_here : {X : Type 0} (x : X) (xs : List X) → Contains (x ∷ xs) x
first_here x xs = Contains-append_left (x ∷ []) xs x (Contains-push [] x)

only_this : {X : Type 0} (x y : X) → Contains (x ∷ []) y → y ≡ x
only_this x y i = of_member (λ z. z ≡ x) (x ∷ []) y (refl, tt) i

in_filter : {X : Type 0} (test : X → Bool) (xs : List X) (y : X) → test y ≡ true → Contains xs y → Contains (filter test xs) y
in_filter test [] y t i = i
in_filter {X = X} test (x ∷ xs) y t i = by (test x) refl (Contains-append_cases (x ∷ []) xs y i) (λ h. in_filter test xs y t h)
  where
    by : (b : Bool) → test x ≡ b → Contains (x ∷ []) y ⊎ Contains xs y → (Contains xs y → Contains (filter test xs) y) → Contains (if b then x ∷ filter test xs else filter test xs) y
    by true e (inl h) later = Contains-append_left (x ∷ []) (filter test xs) y h
    by true e (inr h) later = Contains-append_right (x ∷ []) (filter test xs) y (later h)
    by false e (inl h) later = absurd (true_is_false (sym t ∙ ap test (only_this x y h) ∙ e))
    by false e (inr h) later = later h

none_found : {X : Type 0} (test : X → Bool) (xs : List X) → find test xs ≡ None → AllByRecursion (λ x. test x ≡ false) xs
none_found test [] e = tt
none_found {X = X} test (x ∷ xs) e = by (test x) refl e (λ h. none_found test xs h)
  where
    by : (b : Bool) → test x ≡ b → (if b then Some x else find test xs) ≡ None → (find test xs ≡ None → AllByRecursion (λ y. test y ≡ false) xs) → AllByRecursion (λ y. test y ≡ false) (x ∷ xs)
    by true i e later = absurd (cc)
    by false i e later = (i, later e)

none_any : {X : Type 0} (test : X → Bool) (xs : List X) → list_any test xs ≡ false → AllByRecursion (λ x. test x ≡ false) xs
none_any test [] e = tt
none_any test (x ∷ xs) e = (first_false (test x) (list_any test xs) e, none_any test xs (second_false (test x) (list_any test xs) e))

none_mapped : {X Y : Type 0} (f : X → Y) (o : Option X) → option_map f o ≡ None → o ≡ None
none_mapped f None e = refl
none_mapped f (Some x) e = absurd (cc)

or_first : (a b : Bool) → a ≡ true → a || b ≡ true
or_first true b h = refl
or_first false b h = absurd (true_is_false (sym h))

or_second : (a b : Bool) → b ≡ true → a || b ≡ true
or_second true b h = refl
or_second false b h = h

and_true : (a b : Bool) → a && b ≡ true → (a ≡ true) × (b ≡ true)
and_true true b h = (refl, h)
and_true false b h = absurd (true_is_false (sym h))

not_true : (b : Bool) → not b ≡ true → b ≡ false
not_true true h = absurd (true_is_false (sym h))
not_true false h = refl

some_is : {A : Type 0} {a b : A} → Some a ≡ Some b → a ≡ b
some_is e = cc

-- ---- the binders

-- none is idle, so no two have one name
distinct_names : (inside xs : List SortedName) → first_idle inside xs ≡ None → have_distinct_names xs ≡ true
distinct_names inside [] e = refl
distinct_names inside (x ∷ xs) e = by (is_named x.name inside && not (is_named x.name xs)) refl e (λ h. distinct_names inside xs h)
  where
    by : (b : Bool) → is_named x.name inside && not (is_named x.name xs) ≡ b → (if b then first_idle inside xs else Some x.name) ≡ None → (first_idle inside xs ≡ None → have_distinct_names xs ≡ true) → not (is_named x.name xs) && have_distinct_names xs ≡ true
    by true i e later = ap (λ b. b && have_distinct_names xs) (and_true (is_named x.name inside) (not (is_named x.name xs)) i).1 ∙ later e
    by false i e later = absurd (cc)

not_named : (x : SortedName) (xs : List SortedName) (y : SortedName) → is_named x.name xs ≡ false → Contains xs y → x.name ≡ y.name → ⊥
not_named x xs y n i e = true_is_false (sym (of_member (λ z. is_named z.name xs ≡ true) xs y (members_named xs) i) ∙ (ap (λ m. is_named m xs) (sym e) ∙ n))

distinct_sorts : (xs : List SortedName) → have_distinct_names xs ≡ true → HasOneSortEach xs
distinct_sorts [] d x y i j e = of_member (λ z. z.sort ≡ y.sort) [] x tt i
distinct_sorts (z ∷ zs) d x y i j e =
    let h = and_true (not (is_named z.name zs)) (have_distinct_names zs) d in
    let new : is_named z.name zs ≡ false = not_true (is_named z.name zs) h.0 in
    elim (Contains-append_cases (z ∷ []) zs x i) [
      | inl a ↦ elim (Contains-append_cases (z ∷ []) zs y j) [
        | inl b ↦ ap (λ w. w.sort) (only_this z x a ∙ sym (only_this z y b))
        | inr b ↦ absurd (not_named z zs y new b (sym (ap (λ w. w.name) (only_this z x a)) ∙ e))
      ]
      | inr a ↦ elim (Contains-append_cases (z ∷ []) zs y j) [
        | inl b ↦ absurd (not_named z zs x new a (sym (ap (λ w. w.name) (only_this z y b)) ∙ sym e))
        | inr b ↦ distinct_sorts zs h.1 x y a b e
      ]
    ]

binders_stand : (p : KorePattern) → AllByRecursion (λ y. list_any (bytes_eq y.name) (variable_names p) ≡ true) (top_binders p)
binders_stand (exists s x t p) = (
  or_first (bytes_eq x x) (list_any (bytes_eq x) (variable_names p)) (same_bytes x),
  all_map (λ y. list_any (bytes_eq y.name) (variable_names p) ≡ true) (λ y. list_any (bytes_eq y.name) (variable_names (exists s x t p)) ≡ true) (top_binders p)
      (λ y h. or_second (bytes_eq y.name x) (list_any (bytes_eq y.name) (variable_names p)) h) (binders_stand p),
)
binders_stand _ = tt

-- ---- under the binders

under_verified : (g : KoreSignature) (c : Place) (p : KorePattern) → first_fault g c p ≡ None → (d : Place) × (first_fault g d (under_binders p) ≡ None)
under_verified g c (exists s x t p) e = under_verified g (under_binder x t (part_at c s)) p (nothing_later (fault_at g c (exists s x t p)) _ e)
under_verified g c p e = (c, e)

abbrev named : Text → KoreSort → SortedName
named x t = record { name = x; sort = t }

-- a variable there is free, or one of the binders
under_at_hand : (g : KoreSignature) (c : Place) (p : KorePattern) → first_fault g c p ≡ None → (y : SortedName) → Contains (free_variables (under_binders p)) y → Contains (free_variables p ++ top_binders p) y
under_at_hand g c (exists s x t p) e y i =
    let inner : first_fault g (under_binder x t (part_at c s)) p ≡ None = nothing_later (fault_at g c (exists s x t p)) _ e in
    let whole = c.scope ++ free_variables p in
    elim (Contains-append_cases (free_variables p) (top_binders p) y (under_at_hand g (under_binder x t (part_at c s)) p inner y i)) [
      | inl a ↦ by a (of_member (HasItsSort (named x t ∷ whole)) (free_variables p) y (agrees g (under_binder x t (part_at c s)) p inner) a) (bytes_eq y.name x) refl
      | inr b ↦ Contains-append_right (free_variables (exists s x t p)) (named x t ∷ top_binders p) y (Contains-append_right (named x t ∷ []) (top_binders p) y b)
    ]
  where
    by : Contains (free_variables p) y → sort_in_scope y.name (named x t ∷ (c.scope ++ free_variables p)) ≡ Some y.sort → (b : Bool) → bytes_eq y.name x ≡ b → Contains (free_variables (exists s x t p) ++ top_binders (exists s x t p)) y
    by a h true n =
        let same : x ≡ y.name = sym ((bytes_eq-Decides y.name x).0 n) in
        let own : bytes_eq x y.name ≡ true = (bytes_eq-Decides x y.name).1 same in
        let sort : t ≡ y.sort = some_is (sym (ap (λ b. if b then Some t else sort_in_scope y.name (c.scope ++ free_variables p)) own) ∙ h) in
        let is : named x t ≡ y = ap₂ named same sort in
        Contains-append_right (free_variables (exists s x t p)) (named x t ∷ top_binders p) y (subst (Contains (named x t ∷ top_binders p)) is (first_here (named x t) (top_binders p)))
    by a h false n = Contains-append_left (free_variables (exists s x t p)) (named x t ∷ top_binders p) y (in_filter (λ z. not (bytes_eq z.name x)) (free_variables p) y (ap not n) a)
under_at_hand g c p e y i = Contains-append_left (free_variables p) [] y i

-- ---- names of both

module _ (a c : KorePattern) (clear : first_unclear a c ≡ None) where
  abbrev Both : List SortedName
  Both = free_variables a ++ free_variables c

  each_clear : AllByRecursion (λ x. is_unclear a c x ≡ false) Both
  each_clear = none_found (is_unclear a c) Both (none_mapped (λ x. x.name) (find (is_unclear a c) Both) clear)

  abbrev differs : SortedName → SortedName → Bool
  differs x y = bytes_eq x.name y.name && not (sorts_equal x.sort y.sort)

  unbound : AllByRecursion (λ y. is_named y.name (top_binders c) ≡ false) Both
  unbound = all_map (λ x. is_unclear a c x ≡ false) (λ y. is_named y.name (top_binders c) ≡ false) Both (λ x h. second_false (list_any (differs x) Both) (is_named x.name (top_binders c)) h) each_clear

  same_sort : (x y : SortedName) → differs x y ≡ false → x.name ≡ y.name → x.sort ≡ y.sort
  same_sort x y d e = by (sorts_equal x.sort y.sort) refl
    where
      by : (b : Bool) → sorts_equal x.sort y.sort ≡ b → x.sort ≡ y.sort
      by true i = (sorts_equal-Decides x.sort y.sort).0 i
      by false i = absurd (true_is_false (sym (ap₂ (λ p q. p && not q) ((bytes_eq-Decides x.name y.name).1 e) i) ∙ d))

  both_one_sort : HasOneSortEach Both
  both_one_sort x y i j e =
      let h : is_unclear a c x ≡ false = of_member (λ z. is_unclear a c z ≡ false) Both x each_clear i in
      same_sort x y (of_member (λ z. differs x z ≡ false) Both y (none_any (differs x) Both (first_false (list_any (differs x) Both) (is_named x.name (top_binders c)) h)) j) e

-- ---- sides

own_of_term : (g : KoreSignature) (t : KorePattern) → is_term t ≡ true → own_sort g t ≡ sort_of_term g t
own_of_term g (variable x s) h = refl
own_of_term g (literal s text) h = refl
own_of_term g (application f ss ps) h = refl
own_of_term g _ h = absurd (cc)

inside : (p t : KorePattern) → p ∷ [] ≡ t ∷ [] → p ≡ t
inside p t e = cc

one_term_fault : (g : KoreSignature) (s : KoreSort) (p : KorePattern) → HasOneTerm g s p → side_fault g p ≡ None → state_fault g p ≡ None
one_term_fault g s p one e = by (conjoined_terms p) one.alone e
  where
    by : (ts : List KorePattern) → ts ≡ one.term ∷ [] → (if is_some (only_one ts) then state_fault g p else option_map foreign_symbol (first_foreign g p)) ≡ None → state_fault g p ≡ None
    by [] i e = absurd (cc)
    by (t ∷ []) i e = e
    by (t ∷ u ∷ ts) i e = absurd (cc)

solved_sort : (g : KoreSignature) (s t : SymbolicState) → Solving g s t → t.sort ≡ s.sort
solved_sort g s _ (finished _ q) = refl
solved_sort g s t (goes_on _ _ o q r) = solved_sort g (solved_at g o s) t r

more_at_hand : (hand more xs : List SortedName) → AreAtHand xs hand → AreAtHand xs (hand ++ more)
more_at_hand hand more xs h = all_map (λ x. Contains hand x) (λ x. Contains (hand ++ more) x) xs (λ x i. Contains-append_left hand more x i) h

literals_at_hand : (g : KoreSignature) (hand more : List SortedName) (cs : List (List Literal)) → AllByRecursion (AllByRecursion (IsSortedLiteral g hand)) cs → AllByRecursion (AllByRecursion (IsSortedLiteral g (hand ++ more))) cs
literals_at_hand g hand more cs h =
    all_map (AllByRecursion (IsSortedLiteral g hand)) (AllByRecursion (IsSortedLiteral g (hand ++ more))) cs
    (λ ls k. all_map (IsSortedLiteral g hand) (IsSortedLiteral g (hand ++ more)) ls (λ l i. (i.0, more_at_hand hand more (atom_variables l.atom) i.1)) k) h

-- more variables at hand, a sort for each name of all
beside_safe : (g : KoreSignature) (s : SymbolicState) (c : KorePattern) → IsSafe g s → HasOneSortEach (s.variables ++ free_variables c) → IsSafe g (beside s c)
beside_safe g s c safe one = record {
  sorted = record {
    term = safe.sorted.term;
    term_at_hand = more_at_hand s.variables (free_variables c) (term_variables s.term) safe.sorted.term_at_hand;
    literals = literals_at_hand g s.variables (free_variables c) s.clauses safe.sorted.literals;
    one_sort_each = one;
  };
  formed = record { term = safe.formed.term; literals = safe.formed.literals };
}

-- ---- the question

module _ (g : KoreSignature) (a c : KorePattern) (read : SymbolicState) (k : Consequent) (sort other : KoreSort) (verified : VerifiesAs g a sort) (verified_too : VerifiesAs g c other) (none : side_fault g a ≡ None) (none_too : side_fault g (under_binders c) ≡ None)
    (comparable : AreComparable g a c) (read_as : IsReadAs g a read) (kept : (o : SymbolicState) → opened_state g a ≡ Some o → OfEachKept g (CanBeWritten g) o) (is_consequent : IsConsequent g c k) where
  abbrev Used : List Text
  Used = variable_names a ++ variable_names c

  abbrev s : SymbolicState
  s = beside read c

  abbrev Hand : List SortedName
  Hand = s.variables ++ top_binders c

  abbrev one : KoreSort
  one = comparable.one_term_each.0

  -- the antecedent

  placed : (none_within (has_foreign_head g) a ≡ true) × AllByRecursion (λ q. is_predicate q ≡ true) (conjoined_predicates a)
  placed = nothing_misplaced g a (one_term_fault g one a comparable.one_term_each.1 none)

  opened_safe : IsSafe g read_as.opened
  opened_safe = record {
    sorted = opened_sorted g the_top a read_as.opened verified.0 placed.0 placed.1 read_as.is_opened;
    formed = opened_formed g (IsSoundQuote g) the_top a read_as.opened (λ q i. (i.predicate, sound g q i.stands i.predicate)) verified.0 placed.0 placed.1 read_as.is_opened;
  }

  kept_here : OfEachKept g (CanBeWritten g) read_as.opened
  kept_here = kept read_as.opened read_as.is_opened

  read_safe : IsSafe g read
  read_safe = solving_safe g read_as.opened read opened_safe kept_here read_as.solving

  instances : HasInstancesOf g a read
  instances = (read_kept g the_top a read verified.0 placed.0 placed.1 read_as kept_here).1

  sorts_are_one : HasOneSortEach s.variables
  sorts_are_one = subst (λ xs. HasOneSortEach (xs ++ free_variables c)) (sym instances.variables) (both_one_sort a c comparable.clear)

  clear : AreClear c s.variables
  clear = subst (λ xs. AllByRecursion (λ y. is_named y.name (top_binders c) ≡ false) (xs ++ free_variables c)) (sym instances.variables) (unbound a c comparable.clear)

  used_left : (y : Text) → list_any (bytes_eq y) (variable_names a) ≡ true → list_any (bytes_eq y) Used ≡ true
  used_left y h = list_any-append (bytes_eq y) (variable_names a) (variable_names c) ∙ or_first (list_any (bytes_eq y) (variable_names a)) (list_any (bytes_eq y) (variable_names c)) h

  used_right : (y : Text) → list_any (bytes_eq y) (variable_names c) ≡ true → list_any (bytes_eq y) Used ≡ true
  used_right y h = list_any-append (bytes_eq y) (variable_names a) (variable_names c) ∙ or_second (list_any (bytes_eq y) (variable_names a)) (list_any (bytes_eq y) (variable_names c)) h

  names : AllByRecursion (λ x. IsInUse Used 1 x.name) s.variables
  names =
      subst (λ xs. AllByRecursion (λ x. IsInUse Used 1 x.name) (xs ++ free_variables c)) (sym instances.variables)
      (all_append (λ x. IsInUse Used 1 x.name) (free_variables a) (free_variables c)
      (all_map (λ x. list_any (bytes_eq x.name) (variable_names a) ≡ true) (λ x. IsInUse Used 1 x.name) (free_variables a) (λ x h. inl (used_left x.name h)) (free_stands_names a))
      (all_map (λ x. list_any (bytes_eq x.name) (variable_names c) ≡ true) (λ x. IsInUse Used 1 x.name) (free_variables c) (λ x h. inl (used_right x.name h)) (free_stands_names c)))

  ready : IsReadyState g Used s 1
  ready =
      let safe : IsSafe g s = beside_safe g read c read_safe sorts_are_one in
      record {
        told = λ w u sorts met. tt;
        sorted = record { state = safe.sorted; added = tt };
        safe = safe;
        begun = omega arith;
        names = names;
      }

  of_sort : IsOfSort g s.sort a
  of_sort =
      let o = opened_as g a read_as.opened read_as.is_opened in
      let e : sort_of_term g o.one ≡ Some read.sort = o.sort ∙ ap Some (sym (solved_sort g read_as.opened read read_as.solving)) in
      subst (λ ts. AnyByRecursion (λ t. sort_of_term g t ≡ Some read.sort) ts) (sym o.is_one) (inl e)

  is_one_sort : one ≡ s.sort
  is_one_sort =
      let o = opened_as g a read_as.opened read_as.is_opened in
      let h = comparable.one_term_each.1 in
      let same : h.term ≡ o.one = inside h.term o.one (sym h.alone ∙ o.is_one) in
      some_is (sym h.is_sort ∙ ap (sort_of_term g) same ∙ o.sort) ∙ sym (solved_sort g read_as.opened read read_as.solving)

  -- the consequent

  placed_under : (none_within (has_foreign_head g) (under_binders c) ≡ true) × AllByRecursion (λ q. is_predicate q ≡ true) (conjoined_predicates (under_binders c))
  placed_under = nothing_misplaced g (under_binders c) (one_term_fault g one (under_binders c) comparable.one_term_each.2 none_too)

  distinct : have_distinct_names (top_binders c) ≡ true
  distinct = distinct_names (flat_map free_variables (conjoined_terms (under_binders c))) (top_binders c) comparable.none_idle

  at_hand : (y : SortedName) → Contains (free_variables (under_binders c)) y → Contains Hand y
  at_hand y i = elim (Contains-append_cases (free_variables c) (top_binders c) y (under_at_hand g the_top c verified_too.0 y i)) [
    | inl b ↦ Contains-append_left s.variables (top_binders c) y (Contains-append_right read.variables (free_variables c) y b)
    | inr b ↦ Contains-append_right s.variables (top_binders c) y b
  ]

  each_member_read : AllByRecursion (IsMember g Hand) (conjuncts (under_binders c))
  each_member_read =
      let under = under_verified g the_top c verified_too.0 in
      members g Hand (under_binders c) (
        record { place = under.0; faultless = under.1; meant = placed_under.0; placed = placed_as_they_are g (free_variables (under_binders c)) },
        each_member (λ x. Contains Hand x) (free_variables (under_binders c)) at_hand,
      )

  verified_of : (q : KorePattern) → IsMember g Hand q → IsVerifiedOf g Hand q
  verified_of q i = record { place = i.0.place; verified = i.0.faultless; known = i.0.meant; at_hand = i.1 }

  the_term : IsMember g Hand is_consequent.pattern × (is_term is_consequent.pattern ≡ true)
  the_term = (subst (AllByRecursion (λ q. IsMember g Hand q × (is_term q ≡ true))) is_consequent.alone (all_filtered (IsMember g Hand) is_term (conjuncts (under_binders c)) each_member_read)).0

  predicates_of : (qs : List KorePattern) → AllByRecursion (λ q. IsMember g Hand q × (not (is_term q) ≡ true)) qs → AllByRecursion (λ q. is_predicate q ≡ true) qs → AllByRecursion (IsPredicateOf g Hand) qs
  predicates_of [] h b = tt
  predicates_of (q ∷ qs) h b = ((b.0, verified_of q h.0.0), predicates_of qs h.1 b.1)

  pub question_law : IsQuestion g Used a c s k
  question_law = record {
    read = read;
    read_as = read_as;
    instances = instances;
    is = refl;
    of_sort = of_sort;
    ready = ready;
    consequent = is_consequent;
    distinct = distinct;
    clear = clear;
    in_use = all_map (λ y. list_any (bytes_eq y.name) (variable_names c) ≡ true) (λ y. list_any (bytes_eq y.name) Used ≡ true) (top_binders c) (λ y h. used_right y.name h) (binders_stand c);
    one_sort_each = one_sort_of_both s.variables (top_binders c) sorts_are_one (distinct_sorts (top_binders c) distinct) clear;
    term = verified_of is_consequent.pattern the_term.0;
    sort = own_of_term g is_consequent.pattern the_term.1 ∙ ap (sort_of_term g) (inside is_consequent.pattern comparable.one_term_each.2.term (sym is_consequent.alone ∙ comparable.one_term_each.2.alone)) ∙ comparable.one_term_each.2.is_sort ∙ ap Some is_one_sort;
    predicates = subst (AllByRecursion (IsPredicateOf g Hand)) (sym is_consequent.predicates) (predicates_of (conjoined_predicates (under_binders c)) (all_filtered (IsMember g Hand) (λ q. not (is_term q)) (conjuncts (under_binders c)) each_member_read) placed_under.1);
  }
