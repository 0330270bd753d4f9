-- Sorts with arguments and names.
use Rattle.std.proofs.Common.{◌≡◌, ℕ, Bool, false, ◌↔◌, List, [], ◌∷◌, length}
use Rattle.std.specs.Prelude.{IsTrue, nat_eq}
use Rattle.kp_kore.specs.Syntax.{Text, sort_of, no_sorts}
use Rattle.kp_kore.specs.View.{sorts_view}
use Rattle.kp_kore.specs.declared.sort.Sort.{Sort}

-- a sort with arguments isn't a name's
pub not_plain : (b : Bool) (n w : Text) (ss : List Sort) → b ≡ nat_eq (length ss) 0 → b ≡ false → IsTrue b ↔ (sort_of n no_sorts ≡ sort_of w (sorts_view ss))
not_plain b n w [] e isnt = absurd (cc)
not_plain b n w (s ∷ ss) e isnt = ((λ is. absurd (cc)), (λ same. absurd (cc)))
