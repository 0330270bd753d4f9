use Rattle.std.proofs.Common.{◌∙◌, refl, ap, Some, string_bytes}
use Rattle.kp_claims.specs.Faults.{circle}
use Rattle.kp_claim_files.proofs.Circles.{label_told}
use Rattle.kp_claim_files.proofs.circle.circle_at.Goals as goal

pub returns : goal.returns
returns c = record {
  fault = circle (string_bytes c.in_ok-clone.field-0);
  told = refl;
  holds = ap circle (c.in_ok-clone.ensures.cases ∙ label_told c.args.items.now c.args.place c.index-items-place.result c.requires);
}
