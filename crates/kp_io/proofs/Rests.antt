-- The rest of a list, as the slice from a place to the end is told.
use Rattle.std.proofs.Common.{◌≡◌, ℕ, ◌-◌, List, length, take, drop, sym, ap, ◌∙◌}
use Rattle.std.proofs.lemmas.List.{length-drop}
use Rattle.std.proofs.Math.Seq.{take-length}

pub rest_is_drop : (at : ℕ) (xs : List ℕ) → take (length xs - at) (drop at xs) ≡ drop at xs
rest_is_drop at xs = ap (λ k. take k (drop at xs)) (sym (length-drop at xs)) ∙ take-length (drop at xs)
