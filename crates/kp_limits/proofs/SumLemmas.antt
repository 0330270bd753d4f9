-- Counts summed along a list.
use Rattle.std.proofs.Common.{◌≡◌, refl, sym, ap, ◌∙◌, arith, ℕ, ◌+◌, ◌<◌, ◌≤◌, List, [], ◌∷◌, map, length, drop, get_or}
use Rattle.std.proofs.lemmas.List.{drop_more, drop_all}
use Rattle.kp_ground.specs.View.{value_view, values_of}
use Rattle.kp_ground.specs.declared.value.Value.{Value}
use Rattle.kp_kore.specs.Signature.{KoreSignature}
use Rattle.kp_symbolic.specs.Shown.{sum_over}
use Rattle.kp_rules.specs.Skeletons.{skeleton_view, forms_of}
use Rattle.kp_rules.specs.declared.skeleton.Skeleton.{Skeleton}
use Rattle.kp_limits.specs.Compared.{numbers_in, all_numbers_in, numeric_places, all_numeric_places}

-- so far, and what is left
abbrev pub SumLeft : {X : Type 0} → (X → ℕ) → List X → ℕ → ℕ → Type 0
SumLeft f xs i s = s + sum_over f (drop i xs) ≡ sum_over f xs

pub sum_more : {X : Type 0} (f : X → ℕ) (xs : List X) (i s n new : ℕ) (x : X) → i < length xs → x ≡ get_or xs i x → n ≡ f x → new ≡ s + n → SumLeft f xs i s → SumLeft f xs (i + 1) new
sum_more f xs i s n new x h is e new_is left =
    let split : sum_over f (drop i xs) ≡ f x + sum_over f (drop (i + 1) xs) = ap (sum_over f) (drop_more xs i x h) ∙ ap (λ y. f y + sum_over f (drop (i + 1) xs)) (sym is) in
    omega (arith, split, e, new_is, left)

pub sum_end : {X : Type 0} (f : X → ℕ) (xs : List X) (i s : ℕ) → length xs ≤ i → SumLeft f xs i s → s ≡ sum_over f xs
sum_end f xs i s h left =
    let none : sum_over f (drop i xs) ≡ 0 = ap (sum_over f) (drop_all i xs h) in
    omega (arith, none, left)

-- ---- numbers of values, places of left sides

abbrev pub count_in : Value → ℕ
count_in u = numbers_in (value_view u)

pub values_sum : (us : List Value) → all_numbers_in (values_of (map value_view us)) ≡ sum_over count_in us
values_sum [] = refl
values_sum (u ∷ us) = ap (λ n. count_in u + n) (values_sum us)

abbrev pub places_in : KoreSignature → Skeleton → ℕ
places_in g k = numeric_places g (skeleton_view k)

pub places_sum : (g : KoreSignature) (ks : List Skeleton) → all_numeric_places g (forms_of (map skeleton_view ks)) ≡ sum_over (places_in g) ks
places_sum g [] = refl
places_sum g (k ∷ ks) = ap (λ n. places_in g k + n) (places_sum g ks)
