-- What the claims of a file without a fault are to a proof: sound, and those that are used as rules can be.
-- Source: All-Path Reachability Logic (new variables have names that no claim has; claims as rules); matching logic (a
-- variable's name has one sort).
use Rattle.std.specs.Prelude.{◌≡◌, ℕ, true, List, ◌++◌, slice_get}
use Rattle.std.specs.List.{AllByRecursion, AllZip, filter_map}
use Rattle.std.specs.Option.{option_map}
use Rattle.kp_kore.specs.Parts.{free_variables}
use Rattle.kp_kore.specs.Signature.{KoreSignature}
use Rattle.kp_kore.specs.Cases.{HaveOneSort}
use Rattle.kp_kore.specs.Arcs.{HasNoFreshName}
use Rattle.kp_kore.specs.ClaimModules.{SortedClaim, CanBeRule}
use Rattle.kp_claim_sentences.specs.Claims.{StatedClaim}

-- no variable of the left side has a name that new variables have, and a name has one sort over both sides
pub record IsSoundClaim (c : SortedClaim) : Type 0 where
  pub no_fresh : HasNoFreshName c.claim
  pub one_sort : HaveOneSort (free_variables c.claim.left ++ free_variables c.claim.right)

-- the claims at these places, from 0, in order
abbrev pub claims_at : List StatedClaim → List ℕ → List SortedClaim
claims_at claims places = filter_map (λ k. option_map (λ c. c.claim) (slice_get claims k)) places

-- the claim is sound; it can be a rule where it is its own circularity, and so can those at the places that it depends on
pub record IsSoundAmong (g : KoreSignature) (claims : List StatedClaim) (c : StatedClaim) (places : List ℕ) : Type 0 where
  pub claim : IsSoundClaim c.claim
  pub circularity : c.circular ≡ true → CanBeRule g c.claim
  pub dependencies : AllByRecursion (CanBeRule g) (claims_at claims places)

-- each claim is, with the places that it depends on
abbrev pub AreSoundClaims : KoreSignature → List StatedClaim → List (List ℕ) → Type 0
AreSoundClaims g claims needs = AllZip (IsSoundAmong g claims) claims needs
