-- The claims that a module of claims holds.
use Rattle.std.specs.Prelude.{◌≡◌, ℕ, List, Some, slice_get}
use Rattle.std.specs.List.{Contains, filter_map}
use Rattle.std.specs.Option.{option_map}
use Rattle.kp_kore.specs.Syntax.{Statement, claim_sentence, KoreModule}
use Rattle.kp_text.specs.Spelling.{SpellsModule}
use Rattle.kp_claims.specs.Claims.{sides_of}
use Rattle.kp_kore.specs.ClaimModules.{SortedClaim}
use Rattle.kp_claim_sentences.specs.Items.{sorted_view}
use Rattle.kp_claim_sentences.specs.declared.item.FiledClaim.{FiledClaim}

-- the claims at these places, in order
abbrev pub claims_at : List FiledClaim → List ℕ → List SortedClaim
claims_at items places = filter_map (λ k. option_map sorted_view (slice_get items k)) places

-- some text spells the module
abbrev pub IsSpelled : KoreModule → Type 0
IsSpelled m = (text : List ℕ) × SpellsModule text m

-- the claim stands in a module that some text spells
pub record IsSpelledClaim (c : SortedClaim) : Type 0 where
  pub of_module : KoreModule
  pub spelled : IsSpelled of_module
  pub statement : Statement
  pub stands : Contains of_module.sentences (claim_sentence statement)
  pub sides : sides_of statement.pattern ≡ Some (record { sort = c.sort; left = c.claim.left; right = c.claim.right })
