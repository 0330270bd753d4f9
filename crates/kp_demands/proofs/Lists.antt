-- What holds of each member of a list, told along a loop.
use Rattle.std.proofs.Common.{arith, ◌≡◌, sym, subst, ◌↔◌, ◌<◌, ◌≤◌, ◌+◌, ℕ, zero, suc, List, [], ◌∷◌, ◌++◌, length, map, take, get_or}
use Rattle.std.specs.List.{AllByRecursion}
use Rattle.std.proofs.lemmas.List.{take_more, take_all}

pub all_push : {X : Type 0} (P : X → Type 0) (xs : List X) (x : X) → AllByRecursion P (xs ++ x ∷ []) ↔ (AllByRecursion P xs × P x)
all_push P [] x = (λ h. (tt, h.0), λ h. (h.1, tt))
all_push P (y ∷ ys) x = let on = all_push P ys x in (λ h. let r = on.0 h.1 in ((h.0, r.0), r.1), λ h. (h.0.0, on.1 (h.0.1, h.1)))

pub all_append : {X : Type 0} (P : X → Type 0) (xs ys : List X) → AllByRecursion P (xs ++ ys) ↔ (AllByRecursion P xs × AllByRecursion P ys)
all_append P [] ys = (λ h. (tt, h), λ h. h.1)
all_append P (x ∷ xs) ys = let on = all_append P xs ys in (λ h. let r = on.0 h.1 in ((h.0, r.0), r.1), λ h. (h.0.0, on.1 (h.0.1, h.1)))

pub all_up_to : {X : Type 0} (P : X → Type 0) (xs : List X) (i : ℕ) (d : X) → i < length xs → AllByRecursion P (take (i + 1) xs) ↔ (AllByRecursion P (take i xs) × P (get_or xs i d))
all_up_to P xs i d lt = subst (λ l. AllByRecursion P l ↔ (AllByRecursion P (take i xs) × P (get_or xs i d))) (sym (take_more xs i d lt)) (all_push P (take i xs) (get_or xs i d))

pub all_at : {X : Type 0} (P : X → Type 0) (xs : List X) (i : ℕ) (d : X) → i < length xs → AllByRecursion P xs → P (get_or xs i d)
all_at P [] i d lt h = absurd (omega (arith, lt))
all_at P (x ∷ xs) zero d lt h = h.0
all_at P (x ∷ xs) (suc i) d lt h = all_at P xs i d (omega (arith, lt)) h.1

pub all_taken : {X : Type 0} (P : X → Type 0) (xs : List X) (i : ℕ) → AllByRecursion P xs → AllByRecursion P (take i xs)
all_taken P xs zero h = tt
all_taken P [] (suc i) h = tt
all_taken P (x ∷ xs) (suc i) h = (h.0, all_taken P xs i h.1)

-- what a table says, before and after one more member
pub told_more : {X : Type 0} (P : X → Type 0) (xs : List X) (i : ℕ) (d : X) (old new : Type 0) → i < length xs → old ↔ AllByRecursion P (take i xs) → new ↔ (old × P (get_or xs i d)) → new ↔ AllByRecursion P (take (i + 1) xs)
told_more P xs i d old new lt before step = let up = all_up_to P xs i d lt in (
  λ n. let s = step.0 n in up.1 (before.0 s.0, s.1),
  λ a. let s = up.0 a in step.1 (before.1 s.0, s.1),
)

pub told_none : {X : Type 0} (P : X → Type 0) (xs : List X) (i : ℕ) (d : X) (old : Type 0) → i < length xs → old ↔ AllByRecursion P (take i xs) → (old → ¬ P (get_or xs i d)) → ¬ AllByRecursion P xs
told_none P xs i d old lt before fails all = fails (before.1 (all_taken P xs i all)) (all_at P xs i d lt all)

pub told_all : {X : Type 0} (P : X → Type 0) (xs : List X) (i : ℕ) (old : Type 0) → length xs ≤ i → old ↔ AllByRecursion P (take i xs) → old ↔ AllByRecursion P xs
told_all P xs i old le before = subst (λ l. old ↔ AllByRecursion P l) (take_all i xs le) before

pub all_map : {X : Type 0} (P Q : X → Type 0) (xs : List X) → ((x : X) → P x → Q x) → AllByRecursion P xs → AllByRecursion Q xs
all_map P Q [] f h = tt
all_map P Q (x ∷ xs) f h = (f x h.0, all_map P Q xs f h.1)

-- of each image, where it is of each member
pub all_of_map : {X Y : Type 0} (P : Y → Type 0) (f : X → Y) (xs : List X) → AllByRecursion P (map f xs) ↔ AllByRecursion (λ x. P (f x)) xs
all_of_map P f [] = (λ h. tt, λ h. tt)
all_of_map P f (x ∷ xs) = let on = all_of_map P f xs in (λ h. (h.0, on.0 h.1), λ h. (h.0, on.1 h.1))

pub all_images : {X Y : Type 0} (P : Y → Type 0) (f : X → Y) (xs : List X) (i : ℕ) → length xs ≤ i → AllByRecursion (λ x. P (f x)) (take i xs) → AllByRecursion P (map f xs)
all_images P f xs i le h = (all_of_map P f xs).1 (subst (AllByRecursion (λ x. P (f x))) (take_all i xs le) h)

pub image_at : {X Y : Type 0} (P : Y → Type 0) (f : X → Y) (xs : List X) (i : ℕ) (d : X) → i < length xs → d ≡ get_or xs i d → AllByRecursion P (map f xs) → P (f d)
image_at P f xs i d lt is h = subst (λ x. P (f x)) (sym is) (all_at (λ x. P (f x)) xs i d lt ((all_of_map P f xs).0 h))
