-- Lists of names and of sentences, one more at a time; tests over noted names.
use Rattle.std.proofs.Common.{◌≡◌, refl, sym, ap, ◌∙◌, ℕ, suc, ◌+◌, ◌<◌, ◌≤◌, Bool, true, false, not, ◌&&◌, ◌||◌, cond, List, [], ◌∷◌, ◌++◌, map, length, take, drop, get_or, Bor, Option, Some, None, is_some, String, Global, string_bytes, arith}
use Rattle.std.specs.List.{list_all, list_any, filter, flat_map}
use Rattle.std.specs.Option.{option_map}
use Rattle.std.specs.Str.{bytes_eq}
use Rattle.std.proofs.Math.Seq.{take-suc}
use Rattle.std.proofs.lemmas.List.{map-append, append_assoc}
use Rattle.std.proofs.lemmas.List.Folds.{list_all-append}
use Rattle.std.proofs.lemmas.Slice.Eq.{bytes_eq-Decides}
use Rattle.kp_kore.specs.Syntax.{Text, KorePattern}
use Rattle.kp_kore.specs.Parts.{SortedName}
use Rattle.kp_kore.specs.View.{view, sorted_variable_view, names_view}
use Rattle.kp_kore.specs.declared.pattern.Pattern.{Pattern}
use Rattle.kp_kore.specs.declared.pattern_free.SortedVariable.{SortedVariable}
use Rattle.kp_kore.specs.Instance.{is_named}
use Rattle.kp_kore.proofs.ListLemmas.{one_left}
use Rattle.kp_compile.specs.Parts.{seen}
use Rattle.kp_claim_sentences.specs.Claims.{bound_at}

pub taken : {X : Type 0} (xs : List X) (i : ℕ) (x : X) → i < length xs → x ≡ get_or xs i x → take (i + 1) xs ≡ take i xs ++ x ∷ []
taken xs i x h read = let more : i + 1 ≡ suc i = omega arith in ap (λ k. take k xs) more ∙ take-suc xs i x h ∙ ap (λ y. take i xs ++ y ∷ []) (sym read)

-- names of variables, behind others
pub variables_more : (before : List Text) (vs : List SortedVariable) (i : ℕ) (v : SortedVariable) → i < length vs → v ≡ get_or vs i v →
    (before ++ map (λ x. x.name) (map sorted_variable_view (take i vs))) ++ string_bytes v.name ∷ [] ≡ before ++ map (λ x. x.name) (map sorted_variable_view (take (i + 1) vs))
variables_more before vs i v h read =
    append_assoc before (map (λ x. x.name) (map sorted_variable_view (take i vs))) (string_bytes v.name ∷ [])
    ∙ ap (λ l. before ++ l) (sym (
    ap (λ l. map (λ x. x.name) (map sorted_variable_view l)) (taken vs i v h read)
    ∙ ap (map (λ x. x.name)) (map-append sorted_variable_view (take i vs) (v ∷ []))
    ∙ map-append (λ x. x.name) (map sorted_variable_view (take i vs)) (sorted_variable_view v ∷ [])))

pub names_more : (before : List Text) (ls : List (String Global)) (i : ℕ) (l : String Global) → i < length ls → l ≡ get_or ls i l →
    (before ++ names_view (take i ls)) ++ string_bytes l ∷ [] ≡ before ++ names_view (take (i + 1) ls)
names_more before ls i l h read =
    append_assoc before (names_view (take i ls)) (string_bytes l ∷ [])
    ∙ ap (λ x. before ++ x) (sym (ap names_view (taken ls i l h read) ∙ map-append string_bytes (take i ls) (l ∷ [])))

-- what is bound from a place on
pub bound_left : (ps : List (Bor Pattern)) (i : ℕ) (p : Bor Pattern) → i < length ps → p ≡ get_or ps i p →
    flat_map bound_at (seen (drop i ps)) ≡ bound_at (view p.now) ++ flat_map bound_at (seen (drop (i + 1) ps))
bound_left ps i p h read = ap (λ l. flat_map bound_at (seen l)) (one_left ps i p h read)

-- ---- tests

pub equal_both_ways : (x y : Text) → bytes_eq x y ≡ bytes_eq y x
equal_both_ways x y = by (bytes_eq x y) (bytes_eq y x) refl refl
  where
    by : (a b : Bool) → bytes_eq x y ≡ a → bytes_eq y x ≡ b → bytes_eq x y ≡ bytes_eq y x
    by true b p q = p ∙ sym ((bytes_eq-Decides y x).1 (sym ((bytes_eq-Decides x y).0 p)))
    by false true p q = (bytes_eq-Decides x y).1 (sym ((bytes_eq-Decides y x).0 q)) ∙ sym q
    by false false p q = p ∙ sym q

pub listed_named : (n : Text) (xs : List SortedName) → list_any (bytes_eq n) (map (λ x. x.name) xs) ≡ is_named n xs
listed_named n [] = refl
listed_named n (x ∷ xs) = ap (λ b. b || list_any (bytes_eq n) (map (λ y. y.name) xs)) (equal_both_ways n x.name) ∙ ap (λ b. bytes_eq x.name n || b) (listed_named n xs)

pub all_same : {X : Type 0} (f g : X → Bool) (xs : List X) → ((x : X) → f x ≡ g x) → list_all f xs ≡ list_all g xs
all_same f g [] h = refl
all_same f g (x ∷ xs) h = ap (λ b. b && list_all f xs) (h x) ∙ ap (λ b. g x && b) (all_same f g xs h)

-- all of those that aren't given
pub all_others : {X : Type 0} (given f : X → Bool) (xs : List X) → list_all (λ x. given x || f x) xs ≡ list_all f (filter (λ x. not (given x)) xs)
all_others given f [] = refl
all_others given f (x ∷ xs) = by (given x) (all_others given f xs)
  where
    by : (b : Bool) → list_all (λ y. given y || f y) xs ≡ list_all f (filter (λ y. not (given y)) xs) →
        (b || f x) && list_all (λ y. given y || f y) xs ≡ list_all f (cond (not b) (x ∷ filter (λ y. not (given y)) xs) (filter (λ y. not (given y)) xs))
    by true e = e
    by false e = ap (λ c. f x && c) e

-- the own variables of a right side: those that binders bind, and those that aren't given
pub own_all : (f has given noted : SortedName → Bool) (bs vs : List SortedName) → ((x : SortedName) → has x ≡ f x) → ((x : SortedName) → noted x ≡ given x) →
    (list_all has bs && list_all (λ x. noted x || has x) vs) ≡ list_all f (bs ++ filter (λ x. not (given x)) vs)
own_all f has given noted bs vs h k =
    ap (λ b. b && list_all (λ x. noted x || has x) vs) (all_same has f bs h)
    ∙ ap (λ b. list_all f bs && b) (all_same (λ x. noted x || has x) (λ x. given x || f x) vs (λ x. ap (λ b. b || has x) (k x) ∙ ap (λ b. given x || b) (h x)) ∙ all_others given f vs)
    ∙ sym (list_all-append f bs (filter (λ x. not (given x)) vs))

pub some_both : {A B C : Type 0} (f : A → B) (g : C → B) (o : Option A) (k : Option C) → option_map f o ≡ option_map g k → is_some o ≡ is_some k
some_both f g None None h = refl
some_both f g (Some a) (Some c) h = refl
some_both f g None (Some c) h = absurd (cc)
some_both f g (Some a) None h = absurd (cc)

pub none_own : (f given : SortedName → Bool) (bs vs : List SortedName) → list_all f bs ≡ false → false ≡ list_all f (bs ++ filter (λ x. not (given x)) vs)
none_own f given bs vs h = sym (list_all-append f bs (filter (λ x. not (given x)) vs) ∙ ap (λ b. b && list_all f (filter (λ x. not (given x)) vs)) h)
