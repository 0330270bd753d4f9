-- Which names compiled terms and conditions read.
use Rattle.std.proofs.Common.{◌≡◌, refl, sym, ◌∙◌, ap, ap₂, subst, ℕ, zero, suc, ◌<◌, ◌+◌, Bool, true, false, ◌&&◌, ◌||◌, if◌then◌else◌, List, [], ◌∷◌, ◌++◌, map, take, length, get_or, arith}
use Rattle.std.specs.Prelude.{Result, Ok, Err, IfOk, OnOk}
use Rattle.std.specs.Borrow.{Bor}
use Rattle.std.specs.List.{list_all, AllByRecursion, AllZip}
use Rattle.std.specs.Str.{bytes_eq}
use Rattle.std.proofs.lemmas.Slice.Eq.{bytes_eq-Decides}
use Rattle.std.proofs.lemmas.List.Folds.{list_all-append, list_any-append}
use Rattle.std.proofs.lemmas.List.{append-nil, map-append, take_more}
use Rattle.kp_kore.specs.Syntax.{Text, KorePattern}
use Rattle.kp_kore.specs.Parts.{SortedName, free_variables, all_free_variables}
use Rattle.kp_kore.specs.View.{view, patterns_view}
use Rattle.kp_kore.specs.declared.pattern.Pattern.{Pattern}
use Rattle.kp_ground.specs.Slots.{Place, is_one_of, stands_at, with_name, names_after, is_numbered, joined, left_places, left_variables, term_reads, condition_reads}
use Rattle.kp_ground.specs.declared.term.CompiledTerm.{CompiledTerm}
use Rattle.kp_ground.specs.declared.left_side.CompiledLeft.{CompiledLeft}
use Rattle.kp_ground.specs.declared.condition.Condition.{Condition}
use Rattle.kp_ground.proofs.SlotLemmas.{first_so, second_so, numbered_both, names_both}
use Rattle.kp_compile.specs.Exact.{are_named, ReadAllAs, ConditionsReadAs, ConditionReadsAs, HasPlacesOf, IsPlaceOf}
use Rattle.kp_compile.specs.Parts.{seen}

pub both_so : (a b : Bool) → a ≡ true → b ≡ true → a && b ≡ true
both_so true b h k = k
both_so false b h k = absurd (cc)

-- names of two lists of variables
pub first_named : (xs : List Text) (vs ws : List SortedName) → are_named xs (vs ++ ws) ≡ true → are_named xs vs ≡ true
first_named xs vs ws h = first_so (are_named xs vs) (are_named xs ws) (sym (list_all-append (λ x. is_one_of x.name xs) vs ws) ∙ h)

pub second_named : (xs : List Text) (vs ws : List SortedName) → are_named xs (vs ++ ws) ≡ true → are_named xs ws ≡ true
second_named xs vs ws h = second_so (are_named xs vs) (are_named xs ws) (sym (list_all-append (λ x. is_one_of x.name xs) vs ws) ∙ h)

-- ---- lists

pub each_reads : (xs : List Text) (ps : List Pattern) (ts : List CompiledTerm) → ReadAllAs xs ps ts → are_named xs (all_free_variables (patterns_view ps)) ≡ true → list_all (λ b. b) (map (term_reads xs) ts) ≡ true
each_reads xs [] [] z named = refl
each_reads xs [] (t ∷ ts) z named = absurd z
each_reads xs (p ∷ ps) [] z named = absurd z
each_reads xs (p ∷ ps) (t ∷ ts) z named =
    both_so _ _ (z.0 (first_named xs (free_variables (view p)) (all_free_variables (patterns_view ps)) named))
    (each_reads xs ps ts z.1 (second_named xs (free_variables (view p)) (all_free_variables (patterns_view ps)) named))

pub each_condition_reads : (xs : List Text) (ps : List Pattern) (cs : List Condition) → ConditionsReadAs xs ps cs → are_named xs (all_free_variables (patterns_view ps)) ≡ true → list_all (λ b. b) (map (condition_reads xs) cs) ≡ true
each_condition_reads xs [] [] z named = refl
each_condition_reads xs [] (t ∷ ts) z named = absurd z
each_condition_reads xs (p ∷ ps) [] z named = absurd z
each_condition_reads xs (p ∷ ps) (t ∷ ts) z named =
    both_so _ _ (z.0 (first_named xs (free_variables (view p)) (all_free_variables (patterns_view ps)) named))
    (each_condition_reads xs ps ts z.1 (second_named xs (free_variables (view p)) (all_free_variables (patterns_view ps)) named))

pub each_lent_reads : (xs : List Text) (ps : List (Bor Pattern)) (cs : List Condition) → AllZip (λ p c. ConditionReadsAs xs (view p.now) c) ps cs → AllByRecursion (λ p. are_named xs (free_variables p) ≡ true) (seen ps) →
    list_all (λ b. b) (map (condition_reads xs) cs) ≡ true
each_lent_reads xs [] [] z named = refl
each_lent_reads xs [] (t ∷ ts) z named = absurd z
each_lent_reads xs (p ∷ ps) [] z named = absurd z
each_lent_reads xs (p ∷ ps) (t ∷ ts) z named = both_so _ _ (z.0 named.0) (each_lent_reads xs ps ts z.1 named.1)

-- ---- one argument, and two

pub one_named : (xs : List Text) (ps : List Pattern) (p : Pattern) → length ps ≡ 1 → p ≡ get_or ps 0 p → are_named xs (all_free_variables (patterns_view ps)) ≡ true → are_named xs (free_variables (view p)) ≡ true
one_named xs [] p h e named = absurd (cc)
one_named xs (q ∷ []) p h e named = subst (λ r. are_named xs (free_variables (view r)) ≡ true) (sym e) (first_named xs (free_variables (view q)) [] named)
one_named xs (q ∷ r ∷ ps) p h e named = absurd (cc)

pub two_named : (xs : List Text) (ps : List Pattern) (p q : Pattern) → length ps ≡ 2 → p ≡ get_or ps 0 p → q ≡ get_or ps 1 q → are_named xs (all_free_variables (patterns_view ps)) ≡ true →
    (are_named xs (free_variables (view p)) ≡ true) × (are_named xs (free_variables (view q)) ≡ true)
two_named xs [] p q h d e named = absurd (cc)
two_named xs (i ∷ []) p q h d e named = absurd (cc)
two_named xs (i ∷ j ∷ []) p q h d e named = (
  subst (λ r. are_named xs (free_variables (view r)) ≡ true) (sym d) (first_named xs (free_variables (view i)) (free_variables (view j) ++ []) named),
  subst (λ r. are_named xs (free_variables (view r)) ≡ true) (sym e)
      (first_named xs (free_variables (view j)) [] (second_named xs (free_variables (view i)) (free_variables (view j) ++ []) named)),
)
two_named xs (i ∷ j ∷ k ∷ ps) p q h d e named = absurd (cc)

pub one_variables : (ps : List Pattern) (p : Pattern) (xs : List Text) → length ps ≡ 1 → p ≡ get_or ps 0 p → xs ≡ map (λ x. x.name) (free_variables (view p)) → xs ≡ map (λ x. x.name) (all_free_variables (patterns_view ps))
one_variables [] p xs h e f = absurd (cc)
one_variables (q ∷ []) p xs h e f = f ∙ ap (λ r. map (λ x. x.name) (free_variables (view r))) e ∙ ap (map (λ x. x.name)) (sym (append-nil (free_variables (view q))))
one_variables (q ∷ r ∷ ps) p xs h e f = absurd (cc)

named_there : (xs : List Text) (ps : List Pattern) (i : ℕ) (d : Pattern) → i < length ps → are_named xs (all_free_variables (patterns_view ps)) ≡ true → are_named xs (free_variables (view (get_or ps i d))) ≡ true
named_there xs [] i d h named = absurd (omega arith)
named_there xs (q ∷ qs) zero d h named = first_named xs (free_variables (view q)) (all_free_variables (patterns_view qs)) named
named_there xs (q ∷ qs) (suc i) d h named = named_there xs qs i d (omega arith) (second_named xs (free_variables (view q)) (all_free_variables (patterns_view qs)) named)

-- the argument at a place
pub named_at : (xs : List Text) (ps : List Pattern) (i : ℕ) (p : Pattern) → i < length ps → p ≡ get_or ps i p → are_named xs (all_free_variables (patterns_view ps)) ≡ true → are_named xs (free_variables (view p)) ≡ true
named_at xs ps i p h e named = subst (λ q. are_named xs (free_variables (view q)) ≡ true) (sym e) (named_there xs ps i p h named)

-- one more of a list
pub taken_more : {A : Type 0} (xs : List A) (i : ℕ) (x : A) → i < length xs → x ≡ get_or xs i x → take (i + 1) xs ≡ take i xs ++ x ∷ []
taken_more xs i x h e = take_more xs i x h ∙ ap (λ y. take i xs ++ y ∷ []) (sym e)

-- ---- places of left terms

among_more : (xs : List Text) (x y : Text) → is_one_of x xs ≡ true → is_one_of x (with_name xs y) ≡ true
among_more xs x y h = by (is_one_of y xs)
  where
    by : (b : Bool) → is_one_of x (if b then xs else (xs ++ y ∷ [])) ≡ true
    by true = h
    by false = list_any-append (λ z. bytes_eq z x) xs (y ∷ []) ∙ ap (λ b. b || is_one_of x (y ∷ [])) h

among_itself : (xs : List Text) (x : Text) → is_one_of x (with_name xs x) ≡ true
among_itself xs x = by (is_one_of x xs) refl
  where
    by : (b : Bool) → is_one_of x xs ≡ b → is_one_of x (if b then xs else (xs ++ x ∷ [])) ≡ true
    by true e = e
    by false e = list_any-append (λ z. bytes_eq z x) xs (x ∷ []) ∙ ap₂ (λ a b. a || (b || false)) e ((bytes_eq-Decides x x).1 refl)

among_after : (xs : List Text) (ps : List Place) (x : Text) → is_one_of x xs ≡ true → is_one_of x (names_after xs ps) ≡ true
among_after xs [] x h = h
among_after xs (p ∷ ps) x h = among_after (with_name xs p.name) ps x (among_more xs x p.name h)

places_named : (xs : List Text) (ps : List Place) (vs : List SortedName) → map (λ p. p.name) ps ≡ map (λ v. v.name) vs → are_named (names_after xs ps) vs ≡ true
places_named xs [] [] e = refl
places_named xs [] (v ∷ vs) e = absurd (cc)
places_named xs (p ∷ ps) [] e = absurd (cc)
places_named xs (p ∷ ps) (v ∷ vs) e =
    let same : p.name ≡ v.name = cc in
    let rest : map (λ p. p.name) ps ≡ map (λ v. v.name) vs = cc in
    both_so _ _ (among_after (with_name xs p.name) ps v.name (subst (λ y. is_one_of y (with_name xs p.name) ≡ true) same (among_itself xs p.name))) (places_named (with_name xs p.name) ps vs rest)

-- a left term's variables are named
pub left_named : (l : CompiledLeft) (p : KorePattern) → HasPlacesOf p l → are_named (left_variables l) (free_variables p) ≡ true
left_named l p e = places_named [] (left_places l) (free_variables p) e

-- one place tells its number, and adds its name
pub one_place : (x : Text) (old new : List Text) (places : List Place) → IsPlaceOf x new places → new ≡ with_name old x →
    (map (λ p. p.name) places ≡ x ∷ []) × (is_numbered old places ≡ true) × (new ≡ names_after old places)
one_place x old new places place e = (
  ap (map (λ p. p.name)) place.1,
  ap (is_numbered old) place.1 ∙ both_so _ true (subst (λ ys. stands_at ys x place.0 ≡ true) e place.2) refl,
  e ∙ sym (ap (names_after old) place.1),
)

pub joined_push : (ts : List CompiledLeft) (t : CompiledLeft) → joined (map left_places (ts ++ t ∷ [])) ≡ joined (map left_places ts) ++ left_places t
joined_push [] t = append-nil (left_places t)
joined_push (s ∷ ts) t = ap (λ ps. left_places s ++ ps) (joined_push ts t) ∙ sym (after (left_places s) (joined (map left_places ts)) (left_places t))
  where
    after : (a b c : List Place) → (a ++ b) ++ c ≡ a ++ (b ++ c)
    after [] b c = refl
    after (p ∷ a) b c = ap (λ l. p ∷ l) (after a b c)

variables_push : (ps : List Pattern) (p : Pattern) → all_free_variables (patterns_view (ps ++ p ∷ [])) ≡ all_free_variables (patterns_view ps) ++ free_variables (view p)
variables_push [] p = append-nil (free_variables (view p))
variables_push (q ∷ ps) p = ap (λ vs. free_variables (view q) ++ vs) (variables_push ps p) ∙ sym (after (free_variables (view q)) (all_free_variables (patterns_view ps)) (free_variables (view p)))
  where
    after : (a b c : List SortedName) → (a ++ b) ++ c ≡ a ++ (b ++ c)
    after [] b c = refl
    after (x ∷ a) b c = ap (λ l. x ∷ l) (after a b c)

-- one more left term
pub places_push : (ts : List CompiledLeft) (t : CompiledLeft) (ps : List Pattern) (p : Pattern) → map (λ x. x.name) (joined (map left_places ts)) ≡ map (λ x. x.name) (all_free_variables (patterns_view ps)) →
    map (λ x. x.name) (left_places t) ≡ map (λ x. x.name) (free_variables (view p)) →
    map (λ x. x.name) (joined (map left_places (ts ++ t ∷ []))) ≡ map (λ x. x.name) (all_free_variables (patterns_view (ps ++ p ∷ [])))
places_push ts t ps p e f =
    ap (map (λ x. x.name)) (joined_push ts t) ∙ map-append (λ x. x.name) (joined (map left_places ts)) (left_places t) ∙ ap₂ (λ a b. a ++ b) e f
    ∙ sym (map-append (λ x. x.name) (all_free_variables (patterns_view ps)) (free_variables (view p))) ∙ ap (map (λ x. x.name)) (sym (variables_push ps p))

pub numbered_push : (xs ys : List Text) (ts : List CompiledLeft) (t : CompiledLeft) → is_numbered xs (joined (map left_places ts)) ≡ true → ys ≡ names_after xs (joined (map left_places ts)) → is_numbered ys (left_places t) ≡ true →
    is_numbered xs (joined (map left_places (ts ++ t ∷ []))) ≡ true
numbered_push xs ys ts t h e k =
    ap (is_numbered xs) (joined_push ts t) ∙ numbered_both xs (joined (map left_places ts)) (left_places t)
    ∙ both_so _ _ h (subst (λ zs. is_numbered zs (left_places t) ≡ true) e k)

pub names_push : (xs ys zs : List Text) (ts : List CompiledLeft) (t : CompiledLeft) → ys ≡ names_after xs (joined (map left_places ts)) → zs ≡ names_after ys (left_places t) → zs ≡ names_after xs (joined (map left_places (ts ++ t ∷ [])))
names_push xs ys zs ts t e f =
    f ∙ ap (λ y. names_after y (left_places t)) e ∙ sym (names_both xs (joined (map left_places ts)) (left_places t)) ∙ sym (ap (names_after xs) (joined_push ts t))

-- two facts of one result
pub ok_both : {A E : Type 0} (r : Result A E) (P : A → Type 0) (Q : Type 0) (R : A → Type 0) → ((a : A) → P a → Q → R a) → IfOk r P → OnOk r Q → IfOk r R
ok_both (Ok a) P Q R f h k = f a h k
ok_both (Err e) P Q R f h k = tt
