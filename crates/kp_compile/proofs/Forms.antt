-- A conjunction that isn't one of two patterns.
use Rattle.std.proofs.Common.{◌≡◌, refl, false, List, [], ◌∷◌, length}
use Rattle.kp_kore.specs.Syntax.{KoreSort, conjunction}
use Rattle.kp_kore.specs.View.{patterns_view}
use Rattle.kp_kore.specs.declared.pattern.Pattern.{Pattern}
use Rattle.kp_kore.specs.Instance.{is_conjoined_pair}

pub no_pair : (s : KoreSort) (ps : List Pattern) → (length ps ≡ 2 → ⊥) → false ≡ is_conjoined_pair (conjunction s (patterns_view ps))
no_pair s [] h = refl
no_pair s (p ∷ []) h = refl
no_pair s (p ∷ q ∷ []) h = absurd (h refl)
no_pair s (p ∷ q ∷ r ∷ ps) h = refl
