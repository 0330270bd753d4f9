-- The claims that prove goes by go from one ground term to another.
use Rattle.std.proofs.Common.{◌≡◌, ℕ, List, [], ◌∷◌, subst}
use Rattle.std.specs.List.{AllByRecursion, AllZip}
use Rattle.kp_kore.specs.Syntax.{KoreModule}
use Rattle.kp_kore.specs.Signature.{KoreSignature}
use Rattle.kp_claims.specs.Claims.{counted}
use Rattle.kp_claims.specs.Files.{SpellsFile}
use Rattle.kp_claim_sentences.specs.Claims.{StatedClaim, IsStatedBy}
use Rattle.kp_claim_sentences.specs.Faults.{IsFaultlessFile}
use Rattle.kp_claim_sentences.specs.Items.{items_view}
use Rattle.kp_claim_sentences.specs.declared.item.FiledClaim.{FiledClaim}
use Rattle.kp_claim_files.specs.Ground.{IsPlainClaim}
use Rattle.kp_claim_files.proofs.GroundSides.{ground_is_closed}
use Rattle.kp_program.specs.ClaimFiles.{AreClaimsIn, IsGroundClaim}

pub ground_claims : (g : KoreSignature) (cs : List StatedClaim) → AllByRecursion (IsPlainClaim g) cs → AllByRecursion IsGroundClaim cs
ground_claims g [] plain = tt
ground_claims g (c ∷ cs) plain = (
  record { left = ground_is_closed c.claim.claim.left plain.0.sides.left; right = ground_is_closed c.claim.claim.right plain.0.sides.right },
  ground_claims g cs plain.1,
)

-- what is read over a signature is read over one that is equal
pub claims_read : (g h : KoreSignature) (bytes : List ℕ) (items : List FiledClaim) → g ≡ h →
    ((ms : List KoreModule) × SpellsFile bytes ms × IsFaultlessFile g (counted ms) × AllZip IsStatedBy (counted ms) (items_view items) × AllByRecursion (IsPlainClaim g) (items_view items)) → AreClaimsIn h bytes items
claims_read g h bytes items same read = record {
  modules = read.0;
  spells = read.1;
  faultless = subst (λ (s : KoreSignature). IsFaultlessFile s (counted read.0)) same read.2;
  are = read.3;
  plain = subst (λ (s : KoreSignature). AllByRecursion (IsPlainClaim s) (items_view items)) same read.4;
}
