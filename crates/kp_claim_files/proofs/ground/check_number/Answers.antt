use Rattle.std.proofs.Common.{◌≡◌, sym, subst}
use Rattle.kp_kore.specs.View.{view, sort_view}
use Rattle.kp_signature.specs.Verify.{VerifiesAs}
use Rattle.kp_signature.specs.View.{signature_view}
use Rattle.kp_claims.specs.Faults.{TellsOf}
use Rattle.kp_claim_files.specs.Ground.{IsNumberFaultOf}
use Rattle.kp_claim_files.proofs.GroundClaims.{told_number, not_wide}
use Rattle.kp_claim_files.proofs.ground.check_number.Goals as goal

pub returns-in-Ok-clause-ok : goal.returns-in-Ok-clause-ok
returns-in-Ok-clause-ok c = not_wide (signature_view c.args.signature.now) (view c.args.pattern.now) c.in-Ok.ensures.shape

pub returns-clause-err : goal.returns-clause-err
returns-clause-err c at =
    let g = signature_view c.args.signature.now in
    let s = sort_view c.args.sort.now in
    let p = view c.args.pattern.now in
    let same : sort_view c.in_ok-copy.field-0 ≡ s = c.in_ok-copy.ensures in
    subst (TellsOf (IsNumberFaultOf g p)) (sym c.wide_side.ensures)
    (told_number g s p c.in-Err.error at c.in-Err.ensures.refused (c.in-Err.ensures.other_shape (subst (VerifiesAs g p) (sym same) at.verified)))
