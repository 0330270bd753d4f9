-- Lists of sorts and patterns that are seen as the same are equally long, and the same at each place.
use Rattle.std.proofs.Common.{◌≡◌, ℕ, ◌<◌, List, [], ◌∷◌, map, length, get_or, refl, sym, ap, ◌∙◌, IsTrue, false, ◌↔◌}
use Rattle.std.proofs.lemmas.List.{length-map, get_or-map}
use Rattle.kp_kore.specs.Syntax.{KoreSort, KorePattern}
use Rattle.kp_kore.specs.Parts.{sort_list, pattern_list}
use Rattle.kp_kore.specs.View.{sorts_of, patterns_of}

pub same_length : {A B : Type 0} (f : A → B) (xs ys : List A) → map f xs ≡ map f ys → length xs ≡ length ys
same_length f xs ys e = sym (length-map xs f) ∙ ap length e ∙ length-map ys f

pub same_at : {A B : Type 0} (f : A → B) (xs ys : List A) (i : ℕ) (x y : A) →
    map f xs ≡ map f ys → i < length xs → i < length ys → x ≡ get_or xs i x → y ≡ get_or ys i y → f x ≡ f y
same_at f xs ys i x y e h k p q =
    ap f p ∙ sym (get_or-map f xs i x (f x) h) ∙ ap (λ l. get_or l i (f x)) e ∙ get_or-map f ys i y (f x) k ∙ ap f (sym q)

pub list_of_sorts : (ss : List KoreSort) → sort_list (sorts_of ss) ≡ ss
list_of_sorts [] = refl
list_of_sorts (s ∷ ss) = ap (λ l. s ∷ l) (list_of_sorts ss)

pub list_of_patterns : (ps : List KorePattern) → pattern_list (patterns_of ps) ≡ ps
list_of_patterns [] = refl
list_of_patterns (p ∷ ps) = ap (λ l. p ∷ l) (list_of_patterns ps)

pub same_sorts : (ss ts : List KoreSort) → sorts_of ss ≡ sorts_of ts → ss ≡ ts
same_sorts ss ts e = sym (list_of_sorts ss) ∙ ap sort_list e ∙ list_of_sorts ts

pub same_patterns : (ps qs : List KorePattern) → patterns_of ps ≡ patterns_of qs → ps ≡ qs
same_patterns ps qs e = sym (list_of_patterns ps) ∙ ap pattern_list e ∙ list_of_patterns qs

-- the answer no is right where the fact doesn't hold
pub no_is_right : {P : Type 0} → (P → ⊥) → IsTrue false ↔ P
no_is_right unlike = (λ h. absurd (cc), λ p. absurd (unlike p))
