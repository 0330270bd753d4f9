-- What the code notes of a file, and the claims that it makes of statements.
use Rattle.std.specs.Prelude.{◌≡◌, Bool, true, false, [], Some, None, codes, unwrap_or}
use Rattle.kp_kore.specs.Syntax.{Text, Statement}
use Rattle.kp_kore.specs.Signature.{KoreSignature}
use Rattle.kp_kore.specs.Attributes.{has_mark}
use Rattle.kp_kore.specs.View.{view, sort_view}
use Rattle.kp_signature.specs.Names.{Indexes}
use Rattle.kp_signature.specs.Places.{the_top}
use Rattle.kp_signature.specs.Verify.{first_fault}
use Rattle.kp_claims.specs.Claims.{ClaimSides}
use Rattle.kp_claims.specs.Faults.{bare_claim}
use Rattle.kp_names.specs.Met.{Lists}
use Rattle.kp_claim_sentences.specs.Claims.{clear_sides, dependencies_of, IsStatedAs, StatedClaim}
use Rattle.kp_claim_sentences.specs.Faults.{FileLabels}
use Rattle.kp_claim_sentences.specs.Items.{item_view}
use Rattle.kp_claim_sentences.specs.declared.item.FiledClaim.{FiledClaim}
use Rattle.kp_claim_files.specs.declared.labels.FileLabels as code
use Rattle.kp_rules.specs.declared.rule.RuleBody.{RuleBody}
use Rattle.kp_rules.specs.declared.rule.RuleBody.TheVariants.{Rewrite, Foreign}

-- the code has noted the labels of a file
pub record Notes (file : FileLabels) (noted : code.FileLabels) : Type 0 where
  pub places : Indexes file.labels noted.places
  pub used : Lists file.used noted.used

abbrev pub sides_at : FiledClaim → ClaimSides
sides_at i = record { sort = sort_view i.sort; left = view i.claim.left; right = view i.claim.right }

-- the claim of a statement, with this label and these sides
abbrev pub claim_between : Text → Statement → ClaimSides → StatedClaim
claim_between label s x = record {
  label = label;
  pattern = s.pattern;
  claim = record { sort = x.sort; claim = record { left = x.left; right = x.right } };
  circular = has_mark (codes "circularity") s.attributes;
  depends = unwrap_or (dependencies_of s.attributes) [];
}

-- the claim that a statement makes; its shape, its names and what it says over the signature are without fault
pub record IsClear (g : KoreSignature) (s : Statement) (i : FiledClaim) : Type 0 where
  pub stated : IsStatedAs s (item_view i)
  pub clear : clear_sides s ≡ Some (sides_at i)
  pub verified : first_fault g the_top (bare_claim (sides_at i)) ≡ None

-- the rule isn't foreign
abbrev pub reads_rule : RuleBody → Bool
reads_rule (Rewrite w) = true
reads_rule (Foreign k) = false
