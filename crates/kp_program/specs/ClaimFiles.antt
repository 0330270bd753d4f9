-- What is told of a claims' file; for private clauses.
use Rattle.std.specs.Prelude.{◌≡◌, ◌≤◌, ℕ, List, length, Option, Some, IfSome, string_bytes, ⊤}
use Rattle.std.specs.List.{AllByRecursion, AllZip}
use Rattle.kp_kore.specs.Syntax.{Text, KoreModule}
use Rattle.kp_kore.specs.Signature.{KoreSignature}
use Rattle.kp_io.specs.Outside.{Names, load_limit}
use Rattle.kp_claims.specs.Claims.{counted}
use Rattle.kp_claims.specs.Files.{SpellsFile}
use Rattle.kp_claim_sentences.specs.Claims.{StatedClaim, IsStatedBy}
use Rattle.kp_claim_sentences.specs.Faults.{IsFaultlessFile}
use Rattle.kp_claim_sentences.specs.Items.{items_view}
use Rattle.kp_claim_sentences.specs.declared.item.FiledClaim.{FiledClaim}
use Rattle.kp_claim_files.specs.Ground.{IsPlainClaim}
use Rattle.kp_client.specs.Sound.{IsGround}
use Rattle.kp_program.specs.Faults.{IsClaimsFault}
use Rattle.kp_program.specs.Statuses.{IsNowhere}
use Rattle.kp_program.specs.Troubles.{file_fault_view}
use Rattle.kp_program.specs.declared.trouble.Trouble.{Trouble}
use Rattle.kp_program.specs.declared.trouble.Trouble.TheVariants as trouble

-- the bytes spell modules without a fault, whose claims these are, and prove goes by each
pub record AreClaimsIn (g : KoreSignature) (file : List ℕ) (claims : List FiledClaim) : Type 0 where
  pub modules : List KoreModule
  pub spells : SpellsFile file modules
  pub faultless : IsFaultlessFile g (counted modules)
  pub are : AllZip IsStatedBy (counted modules) (items_view claims)
  pub plain : AllByRecursion (IsPlainClaim g) (items_view claims)

-- the same of a file on a shelf
pub record AreClaimsAt (names : Option Names) (name : Text) (g : KoreSignature) (claims : List FiledClaim) : Type 0 where
  pub file : List ℕ
  pub there : IfSome names (λ held. held name ≡ Some file)
  pub fits : length file ≤ load_limit
  pub claims_in : AreClaimsIn g file claims

-- why there are none of the file of this name
abbrev pub IsClaimsTrouble : Option Names → Text → KoreSignature → Type 0 → Trouble → Type 0
IsClaimsTrouble names name g failed (trouble.File n f) = (string_bytes n ≡ name) × (file : List ℕ) × IfSome names (λ held. held name ≡ Some file) × IsClaimsFault g file (file_fault_view f)
IsClaimsTrouble names name g failed (trouble.NoFile n) = (string_bytes n ≡ name) × IsNowhere names name
IsClaimsTrouble names name g failed trouble.Outside = failed
IsClaimsTrouble names name g failed trouble.Memory = ⊤

-- no side of the claim has a variable
abbrev pub IsGroundClaim : StatedClaim → Type 0
IsGroundClaim c = IsGround c.claim.claim

-- no side of any of the claims has one
abbrev pub AreGround : List StatedClaim → Type 0
AreGround claims = AllByRecursion IsGroundClaim claims
