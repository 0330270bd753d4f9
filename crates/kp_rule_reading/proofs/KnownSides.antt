-- Each variable of a verified right side is new with its sort, or one of the left term's.
use Rattle.std.proofs.Common.{◌≡◌, refl, sym, ap, ap₂, ◌∙◌, Bool, true, false, not, cond, ◌&&◌, ◌||◌, List, [], ◌∷◌, ◌++◌, Option, Some, None}
use Rattle.std.specs.List.{list_all, filter, AllByRecursion}
use Rattle.std.specs.Str.{bytes_eq}
use Rattle.std.proofs.lemmas.Slice.Eq.{bytes_eq-Decides}
use Rattle.std.proofs.lemmas.List.Folds.{list_all-append, list_any-append}
use Rattle.kp_kore.specs.Syntax.{Text, KoreSort, KorePattern, rewriting, exists}
use Rattle.kp_kore.specs.Attributes.{sorts_equal}
use Rattle.kp_kore.specs.Parts.{SortedName, is_term, free_variables, all_free_variables}
use Rattle.kp_kore.specs.Signature.{KoreSignature}
use Rattle.kp_kore.specs.View.{patterns_of}
use Rattle.kp_kore.specs.Instance.{is_named, conjuncts, conjoined_predicates}
use Rattle.kp_kore.specs.Rules.{Rewrite, rewrite_of, constrained_term, top_binders, under_binders, have_distinct_names, new_variables_of, joined}
use Rattle.kp_kore.proofs.SameLemmas.{same_sorts_decide}
use Rattle.kp_signature.specs.Places.{Place, the_top, part_at, after, under_binder, sort_in_scope}
use Rattle.kp_signature.specs.Verify.{first_fault, fault_at}
use Rattle.kp_signature.proofs.FaultLemmas.{nothing_earlier, nothing_later}
use Rattle.kp_signature.proofs.ListLemmas.{all_weaker, all_both, all_filtered}
use Rattle.kp_signature.proofs.OneSort.{agrees}
use Rattle.kp_signature.proofs.RuleSides.{sides_of, holds_of_term}
use Rattle.kp_signature.proofs.SortLemmas.{same_inside}
use Rattle.kp_signature.proofs.VariableSorts.{HasItsSort}
use Rattle.kp_compile.proofs.Reading.{both_so}
use Rattle.kp_rules.specs.Known.{is_among, is_known}
use Rattle.kp_rule_reading.specs.Compiled.{IsKnownRight}
use Rattle.kp_rule_reading.proofs.Named.{conjuncts_pass}

-- ---- one of two

second_so : (a b : Bool) → b ≡ true → a || b ≡ true
second_so true b h = refl
second_so false b h = h

pub first_so : (a b : Bool) → a ≡ true → a || b ≡ true
first_so true b h = refl
first_so false b h = absurd (cc)

pub neither : (a b : Bool) → a || b ≡ false → (a ≡ false) × (b ≡ false)
neither true b h = absurd (cc)
neither false b h = (refl, h)

the_first : (a b : Bool) → a || b ≡ true → b ≡ false → a ≡ true
the_first true b h k = refl
the_first false b h k = absurd (cc)

-- ---- under the binders of the right side

-- it has the sort of the binder of its name, and where none has its name, the one that its name has in scope
pub record StandsBound (scope binders all : List SortedName) (y : SortedName) : Type 0 where
  pub bound : is_named y.name binders ≡ true → is_among y binders ≡ true
  pub scoped : is_named y.name binders ≡ false → sort_in_scope y.name (scope ++ all) ≡ Some y.sort

one_binder : (x : Text) (t : KoreSort) (scope binders all : List SortedName) (y : SortedName) → StandsBound (record { name = x; sort = t } ∷ scope) binders all y → StandsBound scope (record { name = x; sort = t } ∷ binders) all y
one_binder x t scope binders all y h = record {
  bound = λ n. by (is_named y.name binders) refl n;
  scoped = λ n.
      let no = neither (bytes_eq x y.name) (is_named y.name binders) n in
      sym (ap (λ b. cond b (Some t) (sort_in_scope y.name (scope ++ all))) no.0) ∙ h.scoped no.1;
}
  where
    by : (b : Bool) → is_named y.name binders ≡ b → bytes_eq x y.name || is_named y.name binders ≡ true → (bytes_eq x y.name && sorts_equal t y.sort) || is_among y binders ≡ true
    by true e n = second_so (bytes_eq x y.name && sorts_equal t y.sort) (is_among y binders) (h.bound e)
    by false e n =
        let own : bytes_eq x y.name ≡ true = the_first (bytes_eq x y.name) (is_named y.name binders) n e in
        let same : t ≡ y.sort = same_inside t y.sort (sym (ap (λ b. cond b (Some t) (sort_in_scope y.name (scope ++ all))) own) ∙ h.scoped e) in
        first_so (bytes_eq x y.name && sorts_equal t y.sort) (is_among y binders) (both_so _ _ own ((same_sorts_decide t y.sort).1 same))

pub stands_bound : (g : KoreSignature) (c : Place) (r : KorePattern) → first_fault g c r ≡ None → AllByRecursion (StandsBound c.scope (top_binders r) (free_variables (under_binders r))) (free_variables (under_binders r))
stands_bound g c (exists s x t p) e =
    let all = free_variables (under_binders p) in
    all_weaker (StandsBound (record { name = x; sort = t } ∷ c.scope) (top_binders p) all) (StandsBound c.scope (record { name = x; sort = t } ∷ top_binders p) all) all
    (one_binder x t c.scope (top_binders p) all) (stands_bound g (under_binder x t (part_at c s)) p (nothing_later (fault_at g c (exists s x t p)) _ e))
stands_bound g c r e =
    all_weaker (HasItsSort (c.scope ++ free_variables r)) (StandsBound c.scope [] (free_variables r)) (free_variables r) (λ y h. record { bound = λ n. absurd (cc); scoped = λ n. h }) (agrees g c r e)

-- ---- variables among others

own_from : (xs ys : List SortedName) → ((y : SortedName) → is_among y ys ≡ true → is_among y xs ≡ true) → AllByRecursion (λ y. is_among y xs ≡ true) ys
own_from xs [] f = tt
own_from xs (y ∷ ys) f = (
  f y (first_so _ (is_among y ys) (both_so _ _ ((bytes_eq-Decides y.name y.name).1 refl) ((same_sorts_decide y.sort y.sort).1 refl))),
  own_from xs ys (λ z h. f z (second_so _ (is_among z ys) h)),
)

pub own_members : (xs : List SortedName) → AllByRecursion (λ y. is_among y xs ≡ true) xs
own_members xs = own_from xs xs (λ y h. h)

both_names : (a b : Bool) → a && b ≡ true → a ≡ true
both_names true b h = refl
both_names false b h = absurd (cc)

-- a test of names that lets the variable's pass keeps it
kept : (test : Text → Bool) (y : SortedName) (xs : List SortedName) → test y.name ≡ true → is_among y xs ≡ true → is_among y (filter (λ z. test z.name) xs) ≡ true
kept test y [] t h = h
kept test y (z ∷ zs) t h = by (test z.name) refl (bytes_eq z.name y.name && sorts_equal z.sort y.sort) refl h (kept test y zs t)
  where
    by : (b : Bool) → test z.name ≡ b → (k : Bool) → (bytes_eq z.name y.name && sorts_equal z.sort y.sort) ≡ k → k || is_among y zs ≡ true →
        (is_among y zs ≡ true → is_among y (filter (λ w. test w.name) zs) ≡ true) → is_among y (cond b (z ∷ filter (λ w. test w.name) zs) (filter (λ w. test w.name) zs)) ≡ true
    by true e true same h rest = first_so _ (is_among y (filter (λ w. test w.name) zs)) same
    by true e false other h rest = second_so _ (is_among y (filter (λ w. test w.name) zs)) (rest h)
    by false e true same h rest = absurd (cc (sym e ∙ ap test ((bytes_eq-Decides z.name y.name).0 (both_names (bytes_eq z.name y.name) (sorts_equal z.sort y.sort) same)) ∙ t))
    by false e false other h rest = rest h

pub differ : (x y : Text) → bytes_eq x y ≡ false → bytes_eq y x ≡ false
differ x y h = by (bytes_eq y x) refl
  where
    by : (b : Bool) → bytes_eq y x ≡ b → bytes_eq y x ≡ false
    by true e = absurd (cc (sym h ∙ (bytes_eq-Decides x y).1 (sym ((bytes_eq-Decides y x).0 e))))
    by false e = e

-- a variable under the binders that none of them binds stands free in the right side
free_in_whole : (r : KorePattern) (y : SortedName) → is_named y.name (top_binders r) ≡ false → is_among y (free_variables (under_binders r)) ≡ true → is_among y (free_variables r) ≡ true
free_in_whole (exists s x t p) y n h =
    let no = neither (bytes_eq x y.name) (is_named y.name (top_binders p)) n in
    kept (λ m. not (bytes_eq m x)) y (free_variables p) (ap not (differ x y.name no.0)) (free_in_whole p y no.1 h)
free_in_whole r y n h = h

-- ---- names among others

pub named_in_both : (n : Text) (xs ys : List SortedName) → is_named n (xs ++ ys) ≡ (is_named n xs || is_named n ys)
named_in_both n [] ys = refl
named_in_both n (x ∷ xs) ys = ap (λ b. bytes_eq x.name n || b) (named_in_both n xs ys) ∙ moved (bytes_eq x.name n) (is_named n xs) (is_named n ys)
  where
    moved : (a b c : Bool) → a || (b || c) ≡ (a || b) || c
    moved true b c = refl
    moved false b c = refl

-- what isn't named by the left term
unnamed : (left xs : List SortedName) (n : Text) → is_named n left ≡ true → is_named n (filter (λ z. not (is_named z.name left)) xs) ≡ false
unnamed left [] n h = refl
unnamed left (z ∷ zs) n h = by (is_named z.name left) refl (bytes_eq z.name n) refl (unnamed left zs n h)
  where
    by : (b : Bool) → is_named z.name left ≡ b → (k : Bool) → bytes_eq z.name n ≡ k → is_named n (filter (λ w. not (is_named w.name left)) zs) ≡ false →
        is_named n (cond (not b) (z ∷ filter (λ w. not (is_named w.name left)) zs) (filter (λ w. not (is_named w.name left)) zs)) ≡ false
    by true e k f rest = rest
    by false e true f rest = absurd (cc (sym e ∙ ap (λ m. is_named m left) ((bytes_eq-Decides z.name n).0 f) ∙ h))
    by false e false f rest = ap (λ b. b || is_named n (filter (λ w. not (is_named w.name left)) zs)) f ∙ rest

among_both : (y : SortedName) (xs ys : List SortedName) → is_among y (xs ++ ys) ≡ (is_among y xs || is_among y ys)
among_both y xs ys = list_any-append (λ z. bytes_eq z.name y.name && sorts_equal z.sort y.sort) xs ys

pub known_variable : (left scope all : List SortedName) (r : KorePattern) (y : SortedName) → StandsBound scope (top_binders r) all y → is_among y (free_variables (under_binders r)) ≡ true →
    is_known left (top_binders r ++ filter (λ z. not (is_named z.name left)) (free_variables r)) y ≡ true
known_variable left scope all r y h own = by (is_named y.name binders) refl (is_named y.name left) refl
  where
    binders : List SortedName
    binders = top_binders r

    others : List SortedName
    others = filter (λ z. not (is_named z.name left)) (free_variables r)

    by : (b : Bool) → is_named y.name binders ≡ b → (k : Bool) → is_named y.name left ≡ k → is_known left (binders ++ others) y ≡ true
    by true e k f = first_so (is_among y (binders ++ others)) _ (among_both y binders others ∙ first_so (is_among y binders) (is_among y others) (h.bound e))
    by false e true f =
        second_so (is_among y (binders ++ others)) _ (both_so _ _ f (ap not (named_in_both y.name binders others ∙ ap (λ b. b || is_named y.name others) e ∙ unnamed left (free_variables r) y.name f)))
    by false e false f =
        first_so (is_among y (binders ++ others)) _ (among_both y binders others ∙ second_so (is_among y binders) (is_among y others)
        (kept (λ n. not (is_named n left)) y (free_variables r) (ap not f) (free_in_whole r y e own)))

-- ---- the whole

pub all_so : (test : SortedName → Bool) (xs : List SortedName) → AllByRecursion (λ x. test x ≡ true) xs → list_all test xs ≡ true
all_so test [] h = refl
all_so test (x ∷ xs) h = both_so _ _ h.0 (all_so test xs h.1)

all_free : (test : SortedName → Bool) (R : KorePattern → Type 0) (qs : List KorePattern) → AllByRecursion (λ q. (list_all test (free_variables q) ≡ true) × R q) qs → list_all test (all_free_variables (patterns_of qs)) ≡ true
all_free test R [] h = refl
all_free test R (q ∷ qs) h = list_all-append test (free_variables q) (all_free_variables (patterns_of qs)) ∙ both_so _ _ h.0.0 (all_free test R qs h.1)

pub ensured_is : (s : KoreSort) (l r : KorePattern) (m : Rewrite) → rewrite_of (rewriting s l r) ≡ Some m → m.ensured ≡ conjoined_predicates (under_binders r)
ensured_is s l r m h = by (have_distinct_names (top_binders r)) (constrained_term l) (constrained_term (under_binders r)) h
  where
    by : (b : Bool) (x y : Option KorePattern) → cond b (joined l r x y) None ≡ Some m → m.ensured ≡ conjoined_predicates (under_binders r)
    by true (Some t) (Some u) k = sym (ap (λ n. n.ensured) (same_inside (record { left = t; condition = conjoined_predicates l; new_variables = new_variables_of t r; right = u; ensured = conjoined_predicates (under_binders r) }) m k))
    by true (Some t) None k = absurd (cc)
    by true None (Some u) k = absurd (cc)
    by true None None k = absurd (cc)
    by false x y k = absurd (cc)

pub known_right : (g : KoreSignature) (s : KoreSort) (l r : KorePattern) (m : Rewrite) → first_fault g the_top (rewriting s l r) ≡ None → rewrite_of (rewriting s l r) ≡ Some m → IsKnownRight m
known_right g s l r m e h =
    let sides = sides_of s l r m h in
    let left = free_variables m.left in
    let new = new_variables_of m.left r in
    let under = under_binders r in
    let there : first_fault g (after l (part_at the_top s)) r ≡ None = nothing_earlier _ _ (nothing_later (first_fault g (part_at the_top s) l) _ (nothing_later (fault_at g the_top (rewriting s l r)) _ e)) in
    let scope = (after l (part_at the_top s)).scope in
    let each : AllByRecursion (λ y. is_known left new y ≡ true) (free_variables under) =
    all_both (StandsBound scope (top_binders r) (free_variables under)) (λ y. is_among y (free_variables under) ≡ true) (λ y. is_known left new y ≡ true) (free_variables under)
    (known_variable left scope (free_variables under) r) (stands_bound g (after l (part_at the_top s)) r there) (own_members (free_variables under)) in
    let passed : AllByRecursion (λ q. list_all (is_known left new) (free_variables q) ≡ true) (conjuncts under) = conjuncts_pass (is_known left new) under (all_so (is_known left new) (free_variables under) each) in
    let term = holds_of_term (λ q. list_all (is_known left new) (free_variables q) ≡ true) under m.right sides.right passed in
    let predicates : list_all (is_known left new) (all_free_variables (patterns_of (conjoined_predicates under))) ≡ true =
    all_free (is_known left new) (λ q. not (is_term q) ≡ true) (conjoined_predicates under) (all_filtered (λ q. list_all (is_known left new) (free_variables q) ≡ true) (λ q. not (is_term q)) (conjuncts under) passed) in
    record {
      term = term.1;
      known = ap₂ (λ xs qs. list_all (is_known left xs) (free_variables m.right ++ all_free_variables (patterns_of qs))) sides.new_variables (ensured_is s l r m h)
          ∙ list_all-append (is_known left new) (free_variables m.right) (all_free_variables (patterns_of (conjoined_predicates under)))
          ∙ both_so _ _ term.0 predicates;
    }
