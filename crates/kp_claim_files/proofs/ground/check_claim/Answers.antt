use Rattle.std.proofs.Common.{◌∙◌, sym, subst, refl}
use Rattle.std.specs.Prelude.{IfErr, OnOk}
use Rattle.kp_signature.specs.View.{signature_view}
use Rattle.kp_claims.specs.Claims.{ClaimSides}
use Rattle.kp_claims.specs.Faults.{TellsOf}
use Rattle.kp_claim_sentences.specs.Items.{item_view}
use Rattle.kp_claim_files.specs.Ground.{AreGroundSides, AreMeant, AreBeyond, IsBeyondOne}
use Rattle.kp_claim_files.proofs.GroundClaims.{other_told, claim_ok, claim_err, not_alone}
use Rattle.kp_claim_files.proofs.ground.check_claim.Goals as goal

pub returns-then-not-is_alone-clause-err : goal.returns-then-not-is_alone-clause-err
returns-then-not-is_alone-clause-err c meant =
    let g = signature_view c.args.signature.now in
    let x = item_view c.args.claim.now in
    other_told (IsBeyondOne g x) (not_alone g x (sym c.is_alone.ensures ∙ c.if-not-is_alone.true), refl)

pub returns-clause-ok : goal.returns-clause-ok
returns-clause-ok c =
    let g = signature_view c.args.signature.now in
    let x = item_view c.args.claim.now in
    claim_ok g x c.check_sides.result (sym c.is_alone.ensures ∙ c.if-not-is_alone.false)
    (subst (λ (s : ClaimSides). OnOk c.check_sides.result (AreGroundSides g s)) c.outline_of.ensures c.check_sides.ensures.ok)

pub returns-clause-err : goal.returns-clause-err
returns-clause-err c meant =
    let g = signature_view c.args.signature.now in
    let x = item_view c.args.claim.now in
    claim_err g x c.check_sides.result
    (subst (λ (s : ClaimSides). IfErr c.check_sides.result (TellsOf (AreBeyond g s))) c.outline_of.ensures (c.check_sides.ensures.err (subst (λ (s : ClaimSides). AreMeant g s) (sym c.outline_of.ensures) meant)))
