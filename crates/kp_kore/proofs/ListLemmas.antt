-- Lists of facts.
use Rattle.std.proofs.Common.{◌≡◌, refl, sym, ap, ◌∙◌, arith, ℕ, zero, suc, ◌+◌, ◌<◌, ◌≤◌, Bool, true, false, ◌⊎◌, List, [], ◌∷◌, ◌++◌, map, length, drop, get_or, inl, inr}
use Rattle.std.specs.List.{AllByRecursion, filter}
use Rattle.std.proofs.lemmas.List.{drop_more}
use Rattle.kp_kore.specs.Steps.{AnyByRecursion}

pub all_append : {X : Type 0} (P : X → Type 0) (xs ys : List X) → AllByRecursion P xs → AllByRecursion P ys → AllByRecursion P (xs ++ ys)
all_append P [] ys a b = b
all_append P (x ∷ xs) ys a b = (a.0, all_append P xs ys a.1 b)

pub all_left : {X : Type 0} (P : X → Type 0) (xs ys : List X) → AllByRecursion P (xs ++ ys) → AllByRecursion P xs
all_left P [] ys a = tt
all_left P (x ∷ xs) ys a = (a.0, all_left P xs ys a.1)

pub all_right : {X : Type 0} (P : X → Type 0) (xs ys : List X) → AllByRecursion P (xs ++ ys) → AllByRecursion P ys
all_right P [] ys a = a
all_right P (x ∷ xs) ys a = all_right P xs ys a.1

pub all_map : {X : Type 0} (P Q : X → Type 0) (xs : List X) → ((x : X) → P x → Q x) → AllByRecursion P xs → AllByRecursion Q xs
all_map P Q [] f a = tt
all_map P Q (x ∷ xs) f a = (f x a.0, all_map P Q xs f a.1)

pub all_both : {X : Type 0} (P Q : X → Type 0) (xs : List X) → AllByRecursion P xs → AllByRecursion Q xs → AllByRecursion (λ x. P x × Q x) xs
all_both P Q [] a b = tt
all_both P Q (x ∷ xs) a b = ((a.0, b.0), all_both P Q xs a.1 b.1)

pub any_left : {X : Type 0} (P : X → Type 0) (xs ys : List X) → AnyByRecursion P xs → AnyByRecursion P (xs ++ ys)
any_left P [] ys a = absurd a
any_left P (x ∷ xs) ys a = elim a [ inl h ↦ inl h | inr h ↦ inr (any_left P xs ys h) ]

pub any_split : {X : Type 0} (P : X → Type 0) (xs ys : List X) → AnyByRecursion P (xs ++ ys) → AnyByRecursion P xs ⊎ AnyByRecursion P ys
any_split P [] ys a = inr a
any_split P (x ∷ xs) ys a = elim a [ inl h ↦ inl (inl h) | inr h ↦ elim (any_split P xs ys h) [ inl k ↦ inl (inr k) | inr k ↦ inr k ] ]

pub any_map : {X : Type 0} (P Q : X → Type 0) (xs : List X) → ((x : X) → P x → Q x) → AnyByRecursion P xs → AnyByRecursion Q xs
any_map P Q [] f a = absurd a
any_map P Q (x ∷ xs) f a = elim a [ inl h ↦ inl (f x h) | inr h ↦ inr (any_map P Q xs f h) ]

-- of a member of which P holds, where Q holds of all
pub any_all : {X : Type 0} (P Q : X → Type 0) (R : Type 0) (xs : List X) → ((x : X) → P x → Q x → R) → AnyByRecursion P xs → AllByRecursion Q xs → R
any_all P Q R [] f a b = absurd a
any_all P Q R (x ∷ xs) f a b = elim a [ inl h ↦ f x h b.0 | inr h ↦ any_all P Q R xs f h b.1 ]

pub all_each : {X Y : Type 0} (P : Y → X → Type 0) (xs : List X) → ((y : Y) → AllByRecursion (P y) xs) → AllByRecursion (λ x. (y : Y) → P y x) xs
all_each P [] f = tt
all_each P (x ∷ xs) f = ((λ y. (f y).0), all_each P xs (λ y. (f y).1))

pub all_filter : {X : Type 0} (P : X → Type 0) (test : X → Bool) (xs : List X) → AllByRecursion P xs → AllByRecursion P (filter test xs)
all_filter P test [] a = tt
all_filter P test (x ∷ xs) a = by_test (test x) refl (all_filter P test xs a.1)
  where
    by_test : (b : Bool) → test x ≡ b → AllByRecursion P (filter test xs) → AllByRecursion P (filter test (x ∷ xs))
    by_test true e rest = rw e (a.0, rest)
    by_test false e rest = rw e rest

pub none_of : {X : Type 0} (P : X → Type 0) (xs : List X) → ¬ AnyByRecursion P xs → AllByRecursion (λ x. ¬ P x) xs
none_of P [] n = tt
none_of P (x ∷ xs) n = ((λ p. n (inl p)), none_of P xs (λ a. n (inr a)))

pub any_mapped : {X Y : Type 0} (f : X → Y) (P : Y → Type 0) (xs : List X) → AnyByRecursion (λ x. P (f x)) xs → AnyByRecursion P (map f xs)
any_mapped f P [] a = absurd a
any_mapped f P (x ∷ xs) a = elim a [ inl h ↦ inl h | inr h ↦ inr (any_mapped f P xs h) ]

pub all_mapped : {X Y : Type 0} (f : X → Y) (P : Y → Type 0) (xs : List X) → AllByRecursion (λ x. P (f x)) xs → AllByRecursion P (map f xs)
all_mapped f P [] a = tt
all_mapped f P (x ∷ xs) a = (a.0, all_mapped f P xs a.1)

-- of the members of which Q holds
pub any_map_all : {X : Type 0} (P Q R : X → Type 0) (xs : List X) → ((x : X) → Q x → P x → R x) → AllByRecursion Q xs → AnyByRecursion P xs → AnyByRecursion R xs
any_map_all P Q R [] f q a = absurd a
any_map_all P Q R (x ∷ xs) f q a = elim a [ inl h ↦ inl (f x q.0 h) | inr h ↦ inr (any_map_all P Q R xs f q.1 h) ]

-- ---- what is left of a list from a place on

pub one_left : {X : Type 0} (xs : List X) (i : ℕ) (x : X) → i < length xs → x ≡ get_or xs i x → drop i xs ≡ x ∷ drop (i + 1) xs
one_left xs i x h e = drop_more xs i x h ∙ ap (λ y. y ∷ drop (i + 1) xs) (sym e)

pub none_left : {X : Type 0} (xs : List X) (i : ℕ) → length xs ≤ i → drop i xs ≡ []
none_left [] zero h = refl
none_left [] (suc i) h = refl
none_left (x ∷ xs) zero h = absurd (omega arith)
none_left (x ∷ xs) (suc i) h = none_left xs i (omega arith)
