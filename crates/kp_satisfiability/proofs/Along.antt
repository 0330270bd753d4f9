-- What holds of each image, told along a loop.
use Rattle.std.proofs.Common.{◌≡◌, sym, subst, ℕ, ◌+◌, ◌<◌, List, [], ◌∷◌, map, length, take, get_or}
use Rattle.std.specs.List.{AllByRecursion}
use Rattle.std.proofs.lemmas.List.{map_more}
use Rattle.kp_kore.proofs.ListLemmas.{all_append}

pub image_more : {X Y : Type 0} (P : Y → Type 0) (f : X → Y) (xs : List X) (i : ℕ) (d : X) → i < length xs → d ≡ get_or xs i d → AllByRecursion P (map f (take i xs)) → P (f d) → AllByRecursion P (map f (take (i + 1) xs))
image_more P f xs i d lt is h p = subst (AllByRecursion P) (sym (map_more f xs i d lt)) (all_append P (map f (take i xs)) (f (get_or xs i d) ∷ []) h (subst (λ x. P (f x)) is p, tt))
