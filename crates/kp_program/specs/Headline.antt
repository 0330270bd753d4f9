-- The headline: where the words spell `prove` and the output gained a line `passed L`, the claim labelled L holds over the
-- theory that the definition means for its main module.
-- Source: All-Path Reachability Logic (a claim holds); the line is this project's.
use Rattle.std.specs.Prelude.{◌≡◌, ℕ, List, ◌++◌, Option, Some, IfSome, codes}
use Rattle.kp_kore.specs.Syntax.{Text, KoreModule}
use Rattle.kp_io.specs.Outside.{Names}
use Rattle.kp_kore.specs.Steps.{AnyByRecursion}
use Rattle.kp_kore.specs.Claims.{Holds}
use Rattle.kp_claims.specs.Claims.{counted}
use Rattle.kp_claims.specs.Files.{SpellsFile}
use Rattle.kp_claim_sentences.specs.Claims.{StatedClaim, IsStatedBy}
use Rattle.kp_claim_sentences.specs.Faults.{IsFaultlessFile}
use Rattle.kp_report.specs.Report.{HasLine}
use Rattle.kp_program.specs.Loaded.{IsLoaded}
use Rattle.kp_command.specs.Words.{ProveWords, SpellsProve}

-- the claims' file of the command has no fault, so that no two of its claims have one label; it spells a claim with this label, and
-- the claim holds over the theory of the command's definition
pub record HasClaimThatHolds (names : Option Names) (c : ProveWords) (label : Text) : Type 0 where
  pub loaded : IsLoaded names c.definition c.main
  pub file : List ℕ
  pub there : IfSome names (λ held. held c.claims ≡ Some file)
  pub modules : List KoreModule
  pub spells : SpellsFile file modules
  pub faultless : IsFaultlessFile loaded.setting.theory.signature (counted modules)
  pub claim : StatedClaim
  pub is_spelled : AnyByRecursion (λ sentence. IsStatedBy sentence claim) (counted modules)
  pub labelled : claim.label ≡ label
  pub holds : Holds loaded.setting.theory claim.claim.claim

-- what the output held before stands, and behind it each line `passed L` is of a claim that holds
abbrev pub PassedHolds : Option Names → List Text → Option (List ℕ) → Option (List ℕ) → Type 0
PassedHolds names words before after =
    (prove : (c : ProveWords) × SpellsProve words c) (old gained label : List ℕ) → before ≡ Some old → after ≡ Some (old ++ gained) →
    HasLine (codes "passed " ++ label) gained → (c : ProveWords) × SpellsProve words c × HasClaimThatHolds names c label
