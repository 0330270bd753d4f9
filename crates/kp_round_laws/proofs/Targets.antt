-- A claim's target binds each name once.
use Rattle.std.proofs.Common.{◌≡◌, refl, sym, ap, subst, ◌∙◌, Bool, true, false, ◌||◌, List, [], ◌∷◌}
use Rattle.std.specs.Prelude.{if◌then◌else◌}
use Rattle.std.specs.Str.{bytes_eq}
use Rattle.std.proofs.lemmas.Slice.Eq.{bytes_eq-Decides}
use Rattle.kp_kore.specs.Syntax.{Text}
use Rattle.kp_kore.specs.Parts.{SortedName}
use Rattle.kp_kore.specs.Instance.{is_named}
use Rattle.kp_kore.specs.Claims.{ReachabilityClaim}
use Rattle.kp_kore.specs.Replies.{variables_beyond}
use Rattle.kp_kore.specs.Children.{once}
use Rattle.kp_round_laws.specs.Laws.{StandOnce, BindsOnce}

-- a name stands among them exactly where it stood
named_once : (y : Text) (xs : List SortedName) → is_named y (once xs) ≡ is_named y xs
named_once y [] = refl
named_once y (x ∷ xs) = by_test (is_named x.name xs) refl (named_once y xs)
  where
    by_test : (b : Bool) → is_named x.name xs ≡ b → is_named y (once xs) ≡ is_named y xs → is_named y (if b then once xs else x ∷ once xs) ≡ (bytes_eq x.name y || is_named y xs)
    by_test true e more = more ∙ sym (either (bytes_eq x.name y) refl)
      where
        either : (c : Bool) → bytes_eq x.name y ≡ c → (c || is_named y xs) ≡ is_named y xs
        either true same = sym (subst (λ z. is_named z xs ≡ true) ((bytes_eq-Decides x.name y).0 same) e)
        either false same = refl
    by_test false e more = ap (λ b. bytes_eq x.name y || b) more

stand_once : (xs : List SortedName) → StandOnce (once xs)
stand_once [] = tt
stand_once (x ∷ xs) = by_test (is_named x.name xs) refl (stand_once xs)
  where
    by_test : (b : Bool) → is_named x.name xs ≡ b → StandOnce (once xs) → StandOnce (if b then once xs else x ∷ once xs)
    by_test true e more = more
    by_test false e more = (named_once x.name xs ∙ e, more)

pub binds_once : (claim : ReachabilityClaim) → BindsOnce claim
binds_once claim = (stand_once (variables_beyond claim.left claim.right), λ y. named_once y (variables_beyond claim.left claim.right))
