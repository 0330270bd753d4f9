-- A loop over a list, one more element at a time.
use Rattle.std.proofs.Common.{◌≡◌, ◌↔◌, refl, sym, ap, subst, ◌∙◌, arith, ℕ, suc, ◌+◌, ◌<◌, ◌≤◌, zero, true, false, ◌||◌, List, [], ◌∷◌, ◌++◌, map, length, get_or, take, drop, Some, inl, inr}
use Rattle.std.specs.Prelude.{is_some, if◌then◌else◌}
use Rattle.std.specs.List.{AllByRecursion, AllZip}
use Rattle.std.specs.Str.{bytes_eq}
use Rattle.std.proofs.Math.Seq.{take-suc, take_all}
use Rattle.std.proofs.lemmas.List.{map-append, take-append-drop}
use Rattle.kp_kore.specs.Syntax.{Text}
use Rattle.kp_kore.specs.Parts.{SortedName}
use Rattle.kp_kore.specs.Instance.{is_named}
use Rattle.kp_kore.specs.Steps.{AnyByRecursion}
use Rattle.kp_kore.proofs.ListLemmas.{one_left, none_left}
use Rattle.kp_symbolic.specs.Terms.{Replaced, replacement_for}

pub taken : {A : Type 0} (xs : List A) (i : ℕ) (x : A) → i < length xs → x ≡ get_or xs i x → take (i + 1) xs ≡ take i xs ++ x ∷ []
taken xs i x h e =
    let one : i + 1 ≡ suc i = omega arith in
    ap (λ k. take k xs) one ∙ take-suc xs i x h ∙ ap (λ y. take i xs ++ y ∷ []) (sym e)

-- the list around the element
pub split_there : {A : Type 0} (xs : List A) (i : ℕ) (x : A) → i < length xs → x ≡ get_or xs i x → xs ≡ take i xs ++ x ∷ drop (i + 1) xs
split_there xs i x h e = sym (take-append-drop i xs) ∙ ap (λ ys. take i xs ++ ys) (one_left xs i x h e)

pub all_taken : {A : Type 0} (xs : List A) (i : ℕ) → length xs ≤ i → take i xs ≡ xs
all_taken xs i past = take_all i xs past

-- the same of what is seen of the elements
pub taken_views : {A X : Type 0} (v : A → X) (xs : List A) (i : ℕ) (x : A) → i < length xs → x ≡ get_or xs i x → map v (take (i + 1) xs) ≡ map v (take i xs) ++ v x ∷ []
taken_views v xs i x h e = ap (map v) (taken xs i x h e) ∙ map-append v (take i xs) (x ∷ [])

pub waiting_views : {A X : Type 0} (v : A → X) (xs : List A) (i : ℕ) (x : A) → i < length xs → x ≡ get_or xs i x → map v (drop i xs) ≡ v x ∷ map v (drop (i + 1) xs)
waiting_views v xs i x h e = ap (map v) (one_left xs i x h e)

pub all_taken_views : {A X : Type 0} (v : A → X) (xs : List A) (i : ℕ) → length xs ≤ i → map v (take i xs) ≡ map v xs
all_taken_views v xs i past = ap (map v) (all_taken xs i past)

pub none_waiting_views : {A X : Type 0} (v : A → X) (xs : List A) (i : ℕ) → length xs ≤ i → map v (drop i xs) ≡ []
none_waiting_views v xs i past = ap (map v) (none_left xs i past)

-- ---- what holds of each, or of one

pub all_more : {A X : Type 0} (P : X → Type 0) (v : A → X) (xs : List A) (i : ℕ) (x : A) → i < length xs → x ≡ get_or xs i x → P (v x) → (AllByRecursion P (map v (drop i xs)) → AllByRecursion P (map v xs)) → AllByRecursion P (map v (drop (i + 1) xs)) → AllByRecursion P (map v xs)
all_more P v xs i x h e p f rest = f (subst (AllByRecursion P) (sym (waiting_views v xs i x h e)) (p, rest))

pub any_more : {A X : Type 0} (P : X → Type 0) (v : A → X) (xs : List A) (i : ℕ) (x : A) → i < length xs → x ≡ get_or xs i x → (AnyByRecursion P (map v (drop i xs)) → AnyByRecursion P (map v xs)) → AnyByRecursion P (map v (drop (i + 1) xs)) → AnyByRecursion P (map v xs)
any_more P v xs i x h e f rest = f (subst (AnyByRecursion P) (sym (waiting_views v xs i x h e)) (inr rest))

pub any_here : {A X : Type 0} (P : X → Type 0) (v : A → X) (xs : List A) (i : ℕ) (x : A) → i < length xs → x ≡ get_or xs i x → P (v x) → (AnyByRecursion P (map v (drop i xs)) → AnyByRecursion P (map v xs)) → AnyByRecursion P (map v xs)
any_here P v xs i x h e p f = f (subst (AnyByRecursion P) (sym (waiting_views v xs i x h e)) (inl p))

pub all_past : {A X : Type 0} (P : X → Type 0) (v : A → X) (xs : List A) (i : ℕ) → length xs ≤ i → (AllByRecursion P (map v (drop i xs)) → AllByRecursion P (map v xs)) → AllByRecursion P (map v xs)
all_past P v xs i past f = f (subst (AllByRecursion P) (sym (none_waiting_views v xs i past)) tt)

-- both ways
pub each_more : {A X : Type 0} (P : X → Type 0) (v : A → X) (xs : List A) (i : ℕ) (x : A) → i < length xs → x ≡ get_or xs i x → P (v x) → (AllByRecursion P (map v (drop i xs)) ↔ AllByRecursion P (map v xs)) → AllByRecursion P (map v (drop (i + 1) xs)) ↔ AllByRecursion P (map v xs)
each_more P v xs i x h e p k = (all_more P v xs i x h e p k.0, (λ all. (subst (AllByRecursion P) (waiting_views v xs i x h e) (k.1 all)).1))

pub each_fails : {A X : Type 0} (P : X → Type 0) (v : A → X) (xs : List A) (i : ℕ) (x : A) → i < length xs → x ≡ get_or xs i x → ¬ P (v x) → (AllByRecursion P (map v (drop i xs)) ↔ AllByRecursion P (map v xs)) → ¬ AllByRecursion P (map v xs)
each_fails P v xs i x h e n k all = n (subst (AllByRecursion P) (waiting_views v xs i x h e) (k.1 all)).0

-- ---- names

pub bound_here : (b : Replaced) (bs : List Replaced) (x : Text) → bytes_eq b.name x ≡ true → is_some (replacement_for (b ∷ bs) x) ≡ true
bound_here b bs x e = ap (λ d. is_some (if d then Some b.term else replacement_for bs x)) e

pub bound_later : (b : Replaced) (bs : List Replaced) (x : Text) → bytes_eq b.name x ≡ false → is_some (replacement_for (b ∷ bs) x) ≡ is_some (replacement_for bs x)
bound_later b bs x e = ap (λ d. is_some (if d then Some b.term else replacement_for bs x)) e

pub named_here : (y : SortedName) (ys : List SortedName) (x : Text) → bytes_eq y.name x ≡ true → is_named x (y ∷ ys) ≡ true
named_here y ys x e = ap (λ d. d || is_named x ys) e

pub named_later : (y : SortedName) (ys : List SortedName) (x : Text) → bytes_eq y.name x ≡ false → is_named x (y ∷ ys) ≡ is_named x ys
named_later y ys x e = ap (λ d. d || is_named x ys) e

-- what holds of each holds of the element
pub item_of : {A X : Type 0} (P : X → Type 0) (v : A → X) (xs : List A) (i : ℕ) (x : A) → i < length xs → x ≡ get_or xs i x → AllByRecursion P (map v xs) → P (v x)
item_of P v [] i x h e all = absurd (omega (arith, h))
item_of P v (y ∷ xs) zero x h e all = subst (λ z. P (v z)) (sym e) all.0
item_of P v (y ∷ xs) (suc i) x h e all = item_of P v xs i x (omega (arith, h)) e all.1

-- two lists side by side, with one more each
pub zip_more : {X Y : Type 0} (R : X → Y → Type 0) (xs : List X) (ys : List Y) (x : X) (y : Y) → AllZip R xs ys → R x y → AllZip R (xs ++ x ∷ []) (ys ++ y ∷ [])
zip_more R [] [] x y z r = (r, tt)
zip_more R [] (b ∷ ys) x y z r = absurd z
zip_more R (a ∷ xs) [] x y z r = absurd z
zip_more R (a ∷ xs) (b ∷ ys) x y z r = (z.0, zip_more R xs ys x y z.1 r)

pub nothing_left : {A : Type 0} (xs : List A) → length xs ≡ 0 → xs ≡ []
nothing_left [] e = refl
nothing_left (x ∷ xs) e = absurd (omega (arith, e))
