-- A name more among those that were met, and the first of a list of which a test holds.
use Rattle.std.proofs.Common.{◌≡◌, sym, ap, ◌∙◌, ℕ, suc, ◌+◌, ◌<◌, Bool, true, false, cond, List, [], ◌∷◌, ◌++◌, length, map, take, drop, get_or, Some, drop-cons, arith}
use Rattle.std.specs.List.{find}
use Rattle.std.specs.Option.{option_map}
use Rattle.std.proofs.lemmas.List.{map_more}
use Rattle.kp_kore.specs.Syntax.{Text}

pub one_name_more : {X : Type 0} (f : X → Text) (xs : List X) (i : ℕ) (x : X) → i < length xs → x ≡ get_or xs i x → map f (take i xs) ++ f x ∷ [] ≡ map f (take (i + 1) xs)
one_name_more f xs i x lt is = ap (λ y. map f (take i xs) ++ f y ∷ []) is ∙ sym (map_more f xs i x lt)

cut : {X : Type 0} (xs : List X) (i : ℕ) (x : X) → i < length xs → x ≡ get_or xs i x → drop i xs ≡ x ∷ drop (i + 1) xs
cut xs i x lt is =
    let next : suc i ≡ i + 1 = omega arith in
    drop-cons xs i x lt ∙ ap (λ y. y ∷ drop (suc i) xs) (sym is) ∙ ap (λ k. x ∷ drop k xs) next

pub found_here : {X Y Z : Type 0} (f : Y → Bool) (v : X → Y) (n : Y → Z) (xs : List X) (i : ℕ) (x : X) → i < length xs → x ≡ get_or xs i x → f (v x) ≡ true → option_map n (find f (map v (drop i xs))) ≡ Some (n (v x))
found_here f v n xs i x lt is holds = ap (λ l. option_map n (find f (map v l))) (cut xs i x lt is) ∙ ap (λ b. option_map n (cond b (Some (v x)) (find f (map v (drop (i + 1) xs))))) holds

pub found_later : {X Y Z : Type 0} (f : Y → Bool) (v : X → Y) (n : Y → Z) (xs : List X) (i : ℕ) (x : X) → i < length xs → x ≡ get_or xs i x → f (v x) ≡ false → option_map n (find f (map v (drop i xs))) ≡ option_map n (find f (map v (drop (i + 1) xs)))
found_later f v n xs i x lt is fails = ap (λ l. option_map n (find f (map v l))) (cut xs i x lt is) ∙ ap (λ b. option_map n (cond b (Some (v x)) (find f (map v (drop (i + 1) xs))))) fails
