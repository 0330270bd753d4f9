-- Places in lists.
use Rattle.std.proofs.Common.{arith, ◌≡◌, refl, sym, ap, ◌∙◌, ◌↔◌, ℕ, suc, ◌+◌, ◌<◌, ◌≤◌, Bool, true, false, ◌||◌, List, [], ◌∷◌, map, length, drop, get_or}
use Rattle.std.specs.Prelude.{if◌then◌else◌}
use Rattle.std.specs.Bool.{Decides}
use Rattle.std.specs.List.{AllByRecursion, list_any, flat_map}
use Rattle.std.proofs.lemmas.List.{drop_more}
use Rattle.kp_kore.proofs.ListLemmas.{none_left}
use Rattle.kp_demands.proofs.Lists.{all_map, all_append}
use Rattle.kp_clause_demands.specs.Numbers.{place_by}

pub place_within : {X : Type 0} (same : X → X → Bool) (xs : List X) (x : X) → place_by same xs x ≤ length xs
place_within same [] x = omega arith
place_within same (y ∷ ys) x = by (same x y) (place_within same ys x)
  where
    by : (b : Bool) → place_by same ys x ≤ length ys → (if b then 0 else suc (place_by same ys x)) ≤ suc (length ys)
    by true h = omega arith
    by false h = omega (arith, h)

-- what stands at the place
pub place_is : {X : Type 0} (same : X → X → Bool) (decides : (x y : X) → Decides (same x y) (x ≡ y)) (xs : List X) (x d : X) → place_by same xs x < length xs → get_or xs (place_by same xs x) d ≡ x
place_is same decides [] x d h = absurd (omega (arith, h))
place_is same decides (y ∷ ys) x d h = by (same x y) refl h (place_is same decides ys x d)
  where
    by : (b : Bool) → same x y ≡ b → (if b then 0 else suc (place_by same ys x)) < suc (length ys) → (place_by same ys x < length ys → get_or ys (place_by same ys x) d ≡ x) → get_or (y ∷ ys) (if b then 0 else suc (place_by same ys x)) d ≡ x
    by true e l on = sym ((decides x y).0 e)
    by false e l on = on (omega (arith, l))

pub there : {X : Type 0} (same : X → X → Bool) (xs : List X) (x : X) → list_any (same x) xs ≡ true → place_by same xs x < length xs
there same [] x h = absurd (cc)
there same (y ∷ ys) x h = by (same x y) h (there same ys x)
  where
    by : (b : Bool) → (b || list_any (same x) ys) ≡ true → (list_any (same x) ys ≡ true → place_by same ys x < length ys) → (if b then 0 else suc (place_by same ys x)) < suc (length ys)
    by true e on = omega arith
    by false e on = let l = on e in omega (arith, l)

pub all_placed : {X : Type 0} (same : X → X → Bool) → ((x : X) → same x x ≡ true) → (xs : List X) → AllByRecursion (λ x. place_by same xs x < length xs) xs
all_placed same itself [] = tt
all_placed {X} same itself (x ∷ xs) = (first (same x x) (itself x), all_map (λ y. place_by same xs y < length xs) (λ y. place_by same (x ∷ xs) y < suc (length xs)) xs (λ y h. later y (same y x) h) (all_placed same itself xs))
  where
    first : (b : Bool) → b ≡ true → (if b then 0 else suc (place_by same xs x)) < suc (length xs)
    first true e = omega arith
    first false e = absurd (cc)

    later : (y : X) (b : Bool) → place_by same xs y < length xs → (if b then 0 else suc (place_by same xs y)) < suc (length xs)
    later y true h = omega arith
    later y false h = omega (arith, h)

-- what holds of all members of lists that are put together holds of those of each
pub all_flat : {X Y : Type 0} (P : Y → Type 0) (f : X → List Y) (xs : List X) → AllByRecursion P (flat_map f xs) → AllByRecursion (λ x. AllByRecursion P (f x)) xs
all_flat P f [] h = tt
all_flat P f (x ∷ xs) h = let p = (all_append P (f x) (flat_map f xs)).0 h in (p.0, all_flat P f xs p.1)

pub flat_all : {X Y : Type 0} (P : Y → Type 0) (f : X → List Y) (xs : List X) → AllByRecursion (λ x. AllByRecursion P (f x)) xs → AllByRecursion P (flat_map f xs)
flat_all P f [] h = tt
flat_all P f (x ∷ xs) h = (all_append P (f x) (flat_map f xs)).1 (h.0, flat_all P f xs h.1)

-- ---- along a loop over the list

pub place_at : {X Y : Type 0} (same : Y → Y → Bool) (f : X → Y) (xs : List X) (i : ℕ) (x : X) (y : Y) → i < length xs → x ≡ get_or xs i x → place_by same (map f (drop i xs)) y ≡ (if same y (f x) then 0 else suc (place_by same (map f (drop (i + 1) xs)) y))
place_at same f xs i x y lt is = ap (λ l. place_by same (map f l) y) (drop_more xs i x lt ∙ ap (λ k. k ∷ drop (i + 1) xs) (sym is))

pub place_found : {X Y : Type 0} (same : Y → Y → Bool) (f : X → Y) (xs : List X) (i : ℕ) (x : X) (y : Y) → i < length xs → x ≡ get_or xs i x → same y (f x) ≡ true → place_by same (map f xs) y ≡ i + place_by same (map f (drop i xs)) y → i ≡ place_by same (map f xs) y
place_found same f xs i x y lt is e h = let here : place_by same (map f (drop i xs)) y ≡ 0 = place_at same f xs i x y lt is ∙ ap (λ b. if b then 0 else suc (place_by same (map f (drop (i + 1) xs)) y)) e in omega (arith, h, here)

pub place_later : {X Y : Type 0} (same : Y → Y → Bool) (f : X → Y) (xs : List X) (i : ℕ) (x : X) (y : Y) → i < length xs → x ≡ get_or xs i x → same y (f x) ≡ false → place_by same (map f xs) y ≡ i + place_by same (map f (drop i xs)) y →
    place_by same (map f xs) y ≡ (i + 1) + place_by same (map f (drop (i + 1) xs)) y
place_later same f xs i x y lt is e h = let here : place_by same (map f (drop i xs)) y ≡ suc (place_by same (map f (drop (i + 1) xs)) y) = place_at same f xs i x y lt is ∙ ap (λ b. if b then 0 else suc (place_by same (map f (drop (i + 1) xs)) y)) e in omega (arith, h, here)

mapped_length : {X Y : Type 0} (f : X → Y) (xs : List X) → length (map f xs) ≡ length xs
mapped_length f [] = refl
mapped_length f (x ∷ xs) = ap suc (mapped_length f xs)

pub place_ends : {X Y : Type 0} (same : Y → Y → Bool) (f : X → Y) (xs : List X) (i : ℕ) (y : Y) → length xs ≤ i → place_by same (map f xs) y ≡ i + place_by same (map f (drop i xs)) y → length xs ≡ place_by same (map f xs) y
place_ends same f xs i y past h =
    let none : place_by same (map f (drop i xs)) y ≡ 0 = ap (λ l. place_by same (map f l) y) (none_left xs i past) in
    let within = place_within same (map f xs) y in
    let long = mapped_length f xs in
    omega (arith, past, h, none, within, long)

pub place_in_length : {X Y : Type 0} (same : Y → Y → Bool) (f : X → Y) (xs : List X) (y : Y) → place_by same (map f xs) y ≤ length xs
place_in_length same f xs y = let within = place_within same (map f xs) y in let long = mapped_length f xs in omega (arith, within, long)

-- two tests of one thing are the same
pub tested : {P : Type 0} (b c : Bool) → (b ≡ true) ↔ P → Decides c P → b ≡ c
tested true c f d = sym (d.1 (f.0 refl))
tested false true f d = f.1 (d.0 refl)
tested false false f d = refl
