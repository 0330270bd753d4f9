-- Why a run is aborted, and which states owe an instance at the bound.
-- Source: this project; the K Haskell backend's JSON-RPC documentation (execute: aborted).
use Rattle.std.specs.Prelude.{◌≡◌, [], ◌∷◌}
use Rattle.kp_kore.specs.Syntax.{Text, KorePattern}
use Rattle.kp_kore.specs.Instance.{conjoined_predicates}
use Rattle.kp_kore.specs.Theory.{Theory}
use Rattle.kp_kore.specs.Steps.{AnyByRecursion, IsUnknownBy}
use Rattle.kp_kore.specs.AtHand.{OfSome}

pub data Cause : Type 0 where
  -- the foreign rule of this id might rewrite an instance
  foreign : Text → Cause

-- the cause is there in the state s, where the request is at hand
abbrev pub IsShown : Theory → KorePattern → KorePattern → Cause → Type 0
IsShown t request s (foreign id) =
    AnyByRecursion (λ r. (r.id ≡ id) × OfSome t.signature (request ∷ []) s (λ v c. IsUnknownBy t.signature r.body c)) t.rules

-- whether the state has an instance is always decided: it has no predicates
abbrev pub IsDecided : KorePattern → Type 0
IsDecided s = conjoined_predicates s ≡ []
