-- One name more.
use Rattle.std.proofs.Common.{◌≡◌, refl, sym, ap, ◌∙◌, Bool, true, false, ◌||◌, cond, List, [], ◌∷◌, ◌++◌, Option, Some, is_some}
use Rattle.std.specs.List.{list_any}
use Rattle.std.specs.Str.{bytes_eq}
use Rattle.std.proofs.lemmas.List.Folds.{list_any-append}
use Rattle.std.proofs.lemmas.Slice.Eq.{bytes_eq-Decides}
use Rattle.kp_kore.specs.Syntax.{Text}

some_name : (l x : Text) (names : List Text) → list_any (bytes_eq l) (names ++ x ∷ []) ≡ (list_any (bytes_eq l) names || (bytes_eq l x || false))
some_name l x names = list_any-append (bytes_eq l) names (x ∷ [])

or_true : (b : Bool) → (b || true) ≡ true
or_true true = refl
or_true false = refl

or_false : (b : Bool) → b ≡ (b || false)
or_false true = refl
or_false false = refl

false_true : {A : Type 0} → false ≡ true → A
false_true h = absurd (cc)

pub newly_listed : {V : Type 0} (names : List Text) (x : Text) (f g : Text → Option V) (v : V) → ((l : Text) → is_some (f l) ≡ list_any (bytes_eq l) names) → ((l : Text) → g l ≡ cond (bytes_eq x l) (Some v) (f l)) → (l : Text) → is_some (g l) ≡ list_any (bytes_eq l) (names ++ x ∷ [])
newly_listed names x f g v is new l = ap is_some (new l) ∙ by (bytes_eq x l) (bytes_eq l x) refl refl ∙ sym (some_name l x names)
  where
    by : (a b : Bool) → bytes_eq x l ≡ a → bytes_eq l x ≡ b → is_some (cond a (Some v) (f l)) ≡ (list_any (bytes_eq l) names || (b || false))
    by true true p q = sym (or_true (list_any (bytes_eq l) names))
    by true false p q = false_true (sym q ∙ (bytes_eq-Decides l x).1 (sym ((bytes_eq-Decides x l).0 p)))
    by false true p q = false_true (sym p ∙ (bytes_eq-Decides x l).1 (sym ((bytes_eq-Decides l x).0 q)))
    by false false p q = is l ∙ or_false (list_any (bytes_eq l) names)
