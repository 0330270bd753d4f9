-- Names among names: it doesn't matter which list is gone through.
use Rattle.std.specs.Prelude.{◌≡◌, Bool, true, false, ◌||◌, List, [], ◌∷◌}
use Rattle.std.specs.List.{list_any}
use Rattle.std.specs.Str.{bytes_eq}
use Rattle.std.proofs.Common.{refl, sym, ◌∙◌, ap}
use Rattle.std.proofs.lemmas.Slice.Eq.{bytes_eq-Decides}
use Rattle.kp_kore.specs.Syntax.{Text}
use Rattle.kp_kore.specs.Parts.{SortedName}
use Rattle.kp_kore.specs.Instance.{is_named}
use Rattle.kp_kore.proofs.NameLemmas.{same_bytes}

bytes_either : (x y : Text) → bytes_eq x y ≡ bytes_eq y x
bytes_either x y = by (bytes_eq x y) refl (bytes_eq y x) refl
  where
    by : (a : Bool) → bytes_eq x y ≡ a → (b : Bool) → bytes_eq y x ≡ b → a ≡ b
    by true i true j = refl
    by false i false j = refl
    by true i false j = sym (same_bytes x) ∙ ap (λ z. bytes_eq z x) ((bytes_eq-Decides x y).0 i) ∙ j
    by false i true j = sym i ∙ ap (λ z. bytes_eq x z) ((bytes_eq-Decides y x).0 j) ∙ same_bytes x

or_middle : (a b c d : Bool) → (a || b) || (c || d) ≡ (a || c) || (b || d)
or_middle true b c d = refl
or_middle false true true d = refl
or_middle false true false d = refl
or_middle false false c d = refl

none_named : (ys : List SortedName) → list_any (λ y. is_named y.name []) ys ≡ false
none_named [] = refl
none_named (y ∷ ys) = none_named ys

one_more : (x : SortedName) (xs ys : List SortedName) → list_any (λ y. is_named y.name (x ∷ xs)) ys ≡ is_named x.name ys || list_any (λ y. is_named y.name xs) ys
one_more x xs [] = refl
one_more x xs (y ∷ ys) = ap (λ b. (b || is_named y.name xs) || list_any (λ z. is_named z.name (x ∷ xs)) ys) (bytes_either x.name y.name)
    ∙ ap (λ b. (bytes_eq y.name x.name || is_named y.name xs) || b) (one_more x xs ys)
    ∙ or_middle (bytes_eq y.name x.name) (is_named y.name xs) (is_named x.name ys) (list_any (λ z. is_named z.name xs) ys)

pub either_way : (xs ys : List SortedName) → list_any (λ x. is_named x.name ys) xs ≡ list_any (λ y. is_named y.name xs) ys
either_way [] ys = sym (none_named ys)
either_way (x ∷ xs) ys = ap (λ b. is_named x.name ys || b) (either_way xs ys) ∙ sym (one_more x xs ys)
