-- First places of names are places.
use Rattle.std.proofs.Common.{◌≡◌, sym, subst, ◌∙◌, ℕ, zero, suc, take, ◌<◌, ◌≤◌, Bool, true, false, cond, List, [], ◌∷◌, length, Option, Some, None, IfSome, map, String, Global, arith}
use Rattle.std.specs.Option.{option_map}
use Rattle.std.specs.Str.{bytes_eq}
use Rattle.std.proofs.lemmas.List.{length-map}
use Rattle.indexmap.specs.IndexMap.{IndexMap}
use Rattle.kp_kore.specs.Syntax.{Text}
use Rattle.kp_kore.specs.View.{module_view}
use Rattle.kp_kore.specs.declared.sentence.Module.{Module}
use Rattle.kp_signature.specs.Names.{Indexes, first_place}
use Rattle.kp_imports.specs.Names.{module_names, PlacesAreBelow}

place_below : (n : Text) (names : List Text) → IfSome (first_place n names) (λ p. p < length names)
place_below n [] = tt
place_below n (m ∷ ms) = by (bytes_eq m n) (first_place n ms) (place_below n ms)
  where
    by : (b : Bool) (o : Option ℕ) → IfSome o (λ p. p < length ms) → IfSome (cond b (Some 0) (option_map suc o)) (λ p. p < suc (length ms))
    by true o h = omega arith
    by false (Some p) h = omega arith
    by false None h = tt

pub length_names : (ms : List Module) → length (module_names ms) ≡ length ms
length_names ms = length-map (map module_view ms) (λ m. m.name) ∙ length-map ms module_view

pub places_below : {S : Type 0} (ms : List Module) (places : IndexMap (String Global) ℕ S) → Indexes (module_names ms) places → PlacesAreBelow places (length ms)
places_below ms places is n p e =
    let P : Option ℕ → Type 0 = λ o. IfSome o (λ q. q < length (module_names ms)) in
    let h : p < length (module_names ms) = subst P (sym (is n) ∙ e) (place_below n (module_names ms)) in
    subst (λ k. p < k) (length_names ms) h

take_shorter : {A : Type 0} (k : ℕ) (xs : List A) → length (take k xs) ≤ length xs
take_shorter zero xs = omega arith
take_shorter (suc k) [] = omega arith
take_shorter (suc k) (x ∷ xs) = let h : length (take k xs) ≤ length xs = take_shorter k xs in omega arith

pub places_below_take : {S : Type 0} (k : ℕ) (ms : List Module) (places : IndexMap (String Global) ℕ S) → Indexes (module_names (take k ms)) places → PlacesAreBelow places (length ms)
places_below_take k ms places is n p e =
    let h : p < length (take k ms) = places_below (take k ms) places is n p e in
    let shorter : length (take k ms) ≤ length ms = take_shorter k ms in
    omega arith

pub named_below : (ms : List Module) (n : Text) (p : ℕ) → first_place n (module_names ms) ≡ Some p → p < length ms
named_below ms n p e =
    let P : Option ℕ → Type 0 = λ o. IfSome o (λ q. q < length (module_names ms)) in
    let h : p < length (module_names ms) = subst P e (place_below n (module_names ms)) in
    subst (λ k. p < k) (length_names ms) h
