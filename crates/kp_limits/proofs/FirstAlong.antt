-- The first answer along a list whose members have parts, one after another.
use Rattle.std.proofs.Common.{◌≡◌, refl, sym, ap, ◌∙◌, ℕ, ◌+◌, ◌<◌, ◌≤◌, List, [], ◌∷◌, ◌++◌, map, length, drop, get_or, Option, Some, None}
use Rattle.std.specs.List.{flat_map}
use Rattle.kp_kore.proofs.ListLemmas.{one_left, none_left}

-- among joined lists the first list answers, and the second where the first doesn't
pub record IsFirst {P R : Type 0} (first : List P → Option R) : Type 0 where
  pub either : Option R → Option R → Option R
  pub joined : (xs ys : List P) → first (xs ++ ys) ≡ either (first xs) (first ys)
  pub answered : (r : R) (o : Option R) → either (Some r) o ≡ Some r
  pub passed : (o : Option R) → either None o ≡ o

-- the first among the parts of those from a place on is the first among all
abbrev pub Left : {A P R : Type 0} → (List P → Option R) → (A → List P) → List A → ℕ → Type 0
Left first f xs i = first (flat_map f (drop i xs)) ≡ first (flat_map f xs)

at_member : {A P R : Type 0} (first : List P → Option R) (is : IsFirst first) (f : A → List P) (xs : List A) (i : ℕ) (x : A) → i < length xs → x ≡ get_or xs i x →
    first (flat_map f (drop i xs)) ≡ is.either (first (f x)) (first (flat_map f (drop (i + 1) xs)))
at_member first is f xs i x h e = ap (λ ys. first (flat_map f ys)) (one_left xs i x h e) ∙ is.joined (f x) (flat_map f (drop (i + 1) xs))

pub here : {A P R : Type 0} (first : List P → Option R) (is : IsFirst first) (f : A → List P) (xs : List A) (i : ℕ) (x : A) (r : R) → i < length xs → x ≡ get_or xs i x → Some r ≡ first (f x) → Left first f xs i → Some r ≡ first (flat_map f xs)
here first is f xs i x r h e found left =
    let rest = first (flat_map f (drop (i + 1) xs)) in
    sym (is.answered r rest) ∙ ap (λ o. is.either o rest) found ∙ sym (at_member first is f xs i x h e) ∙ left

pub later : {A P R : Type 0} (first : List P → Option R) (is : IsFirst first) (f : A → List P) (xs : List A) (i : ℕ) (x : A) → i < length xs → x ≡ get_or xs i x → None ≡ first (f x) → Left first f xs i → Left first f xs (i + 1)
later first is f xs i x h e none left =
    let rest = first (flat_map f (drop (i + 1) xs)) in
    sym (is.passed rest) ∙ ap (λ o. is.either o rest) none ∙ sym (at_member first is f xs i x h e) ∙ left

pub none : {A P R : Type 0} (first : List P → Option R) (f : A → List P) (xs : List A) (i : ℕ) → first [] ≡ None → length xs ≤ i → Left first f xs i → None ≡ first (flat_map f xs)
none first f xs i empty h left = sym empty ∙ sym (ap (λ ys. first (flat_map f ys)) (none_left xs i h)) ∙ left

pub seen_flat : {A B P : Type 0} (f : B → List P) (see : A → B) (xs : List A) → flat_map (λ x. f (see x)) xs ≡ flat_map f (map see xs)
seen_flat f see [] = refl
seen_flat f see (x ∷ xs) = ap (λ ts. f (see x) ++ ts) (seen_flat f see xs)
