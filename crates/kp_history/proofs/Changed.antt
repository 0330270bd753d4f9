-- Lists after one change, words, and the longer of two lists.
use Rattle.std.proofs.Common.{◌≡◌, ◌⊎◌, inl, inr, ℕ, zero, suc, ◌+◌, ◌-◌, ◌%◌, ◌^◌, ◌<◌, ◌≤◌, Bool, eq-eqb, ne_eqb, List, [], ◌∷◌, ◌++◌, length, set, Some, refl, ap, sym, ◌∙◌, arith, mod-eq_of_lt}
use Rattle.std.proofs.Math.Nat.{mod-add-mod}
use Rattle.std.specs.Prelude.{if◌then◌else◌}
use Rattle.std.specs.List.{AllByRecursion}
use mathlib.Core.Option.{some, some-ne-none}
use mathlib.Core.Logic.{dite}
use native.Mathlib.Decide.{ℕ_discrete}
use lib.ListN.{get_elem?}
use Rattle.kp_history.specs.Views.{longer}

pub all_map : (P Q : ℕ → Type 0) → ((p : ℕ) → P p → Q p) → (l : List ℕ) → AllByRecursion P l → AllByRecursion Q l
all_map P Q f [] all = tt
all_map P Q f (x ∷ xs) all = (f x all.0, all_map P Q f xs all.1)

pub all_snoc : (P : ℕ → Type 0) (l : List ℕ) (x : ℕ) → AllByRecursion P l → P x → AllByRecursion P (l ++ x ∷ [])
all_snoc P [] x all last = (last, tt)
all_snoc P (y ∷ ys) x all last = (all.0, all_snoc P ys x all.1 last)

pub all_append : (P : ℕ → Type 0) (l m : List ℕ) → AllByRecursion P l → AllByRecursion P m → AllByRecursion P (l ++ m)
all_append P [] m a b = b
all_append P (x ∷ xs) m a b = (a.0, all_append P xs m a.1 b)

pub set_at : {A : Type 0} (xs : List A) (id : ℕ) (v w : A) → get_elem? xs id ≡ some v → get_elem? (set xs id w) id ≡ some w
set_at [] id v w e = absurd (some-ne-none v (sym e))
set_at (x ∷ xs) zero v w e = refl
set_at (x ∷ xs) (suc id) v w e = set_at xs id v w e

pub next_word : (n : ℕ) → (n % 2 ^ 64 + 1) % 2 ^ 64 ≡ suc n % 2 ^ 64
next_word n = mod-add-mod n (2 ^ 64) 1 ∙ ap (λ (k : ℕ). k % 2 ^ 64) (omega arith)

pub small_word : (n : ℕ) → n < 2 ^ 64 → n % 2 ^ 64 ≡ n
small_word n small = mod-eq_of_lt small

pub some_is : {A : Type 0} (x y : A) → Some x ≡ Some y → x ≡ y
some_is x y e = cc e

pub longer_of : {E : Type 0} (xs ys : List E) → ((longer xs ys ≡ ys) × (length xs ≤ length ys)) ⊎ ((longer xs ys ≡ xs) × (length ys ≤ length xs))
longer_of xs ys = dite (ℕ_discrete (length xs - length ys) 0)
    (λ z. inl (ap (λ (b : Bool). if b then ys else xs) (eq-eqb (length xs - length ys) 0 z), omega arith))
    (λ n. inr (ap (λ (b : Bool). if b then ys else xs) (ne_eqb (length xs - length ys) 0 n), omega arith))
