-- Reachability claims over all paths, as partial correctness.
-- Source: All-Path Reachability Logic (Stefanescu, Ciobaca, Mereuta, Moore, Serbanuta, Rosu).
use Rattle.std.specs.Prelude.{ℕ, ◌<◌, ◌≤◌, List, ◌∷◌, length}
use Rattle.std.specs.List.{AllByRecursion}
use Rattle.kp_kore.specs.Syntax.{KorePattern}
use Rattle.kp_kore.specs.Parts.{free_variables}
use Rattle.kp_kore.specs.Signature.{KoreSignature}
use Rattle.kp_kore.specs.Value.{Value}
use Rattle.kp_kore.specs.Instance.{Valuation, GivesSorts, AgreesOn, IsInstance}
use Rattle.kp_kore.specs.Theory.{Theory}
use Rattle.kp_kore.specs.Steps.{IsCompleteRun}

-- from the left side to the right side; what the right has and the left hasn't counts as bound by \exists
pub record ReachabilityClaim : Type 0 where
  pub left : KorePattern
  pub right : KorePattern

-- the configuration is an instance of the right side under a valuation that agrees on the left's variables
pub record IsReached (g : KoreSignature) (claim : ReachabilityClaim) (v : Valuation) (c : Value) : Type 0 where
  pub chosen : Valuation
  pub agrees : AgreesOn (free_variables claim.left) v chosen
  pub sorts : GivesSorts g chosen (free_variables claim.right)
  pub met : IsInstance g chosen claim.right c

-- no configuration of the run is reached
abbrev pub Misses : KoreSignature → ReachabilityClaim → Valuation → List Value → Type 0
Misses g claim v = AllByRecursion (λ c. ¬ IsReached g claim v c)

-- no complete run of at most n steps from the left side's instance misses the right side
abbrev pub HoldsUpTo : Theory → ℕ → ReachabilityClaim → Type 0
HoldsUpTo t n claim =
    (v : Valuation) (c : Value) (more : List Value) →
    GivesSorts t.signature v (free_variables claim.left) →
    IsInstance t.signature v claim.left c →
    IsCompleteRun t c more →
    length more ≤ n →
    ¬ Misses t.signature claim v (c ∷ more)

abbrev pub Holds : Theory → ReachabilityClaim → Type 0
Holds t claim = (n : ℕ) → HoldsUpTo t n claim

-- the claim holds one step further than these: up to each n such that they hold up to every smaller number
abbrev pub HoldsAfter : Theory → List ReachabilityClaim → ReachabilityClaim → Type 0
HoldsAfter t claims claim = (n : ℕ) → ((m : ℕ) → m < n → AllByRecursion (HoldsUpTo t m) claims) → HoldsUpTo t n claim
