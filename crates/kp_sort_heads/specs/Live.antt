-- The next head that some value has.
-- Source: matching logic's models, as K reads constructors (each value is built from constructors, no junk).
use Rattle.std.specs.Prelude.{◌≡◌, List, [], ◌∷◌, ◌++◌, Option, Some, None}
use Rattle.std.specs.List.{Contains}
use Rattle.kp_kore.specs.Signature.{KoreSignature, Head}
use Rattle.kp_heads.specs.Heads.{IsLive}

-- some heads stand before the rest, and no value has any of them
pub record Passed (g : KoreSignature) (before rest : List Head) : Type 0 where
  pub passed : List Head
  pub is : before ≡ passed ++ rest
  pub none : (h : Head) → Contains passed h → IsLive g h → ⊥

-- the first head that some value has, and what stands behind it; none where no value has any
abbrev pub IsNextLive : KoreSignature → Option Head → List Head → List Head → Type 0
IsNextLive g (Some h) before after = Passed g before (h ∷ after) × IsLive g h
IsNextLive g None before after = Passed g before [] × (after ≡ [])
