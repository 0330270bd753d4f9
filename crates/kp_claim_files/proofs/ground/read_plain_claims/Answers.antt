use Rattle.std.proofs.Common.{[], subst, List}
use Rattle.std.specs.List.{AllByRecursion}
use Rattle.kp_signature.specs.View.{signature_view}
use Rattle.kp_claims.specs.Claims.{counted}
use Rattle.kp_claims.specs.Faults.{TellsOf}
use Rattle.kp_claims.proofs.OneMore.{exit}
use Rattle.kp_claim_sentences.specs.Faults.{file_labels}
use Rattle.kp_claim_sentences.specs.Items.{items_view}
use Rattle.kp_claim_sentences.specs.declared.item.FiledClaim.{FiledClaim}
use Rattle.kp_claim_files.specs.Ground.{IsErrorForProve, IsBeyondAmong, IsMeant, IsPlainClaim}
use Rattle.kp_claim_files.proofs.GroundClaims.{all_meant, error_of_file, error_beyond}
use Rattle.kp_claim_files.proofs.ground.read_plain_claims.Goals as goal

pub returns-in_err-claims-clause-fault : goal.returns-in_err-claims-clause-fault
returns-in_err-claims-clause-fault c =
    let g = signature_view c.args.signature.now in
    let bytes = c.args.bytes.now in
    let e = c.in_err-claims.field-0.0 in
    exit c.from_residual.result (IsErrorForProve g bytes) e c.from_residual.ensures (error_of_file g bytes e c.in_err-claims.ensures.fault)

pub returns-in_err-check_plain-clause-fault : goal.returns-in_err-check_plain-clause-fault
returns-in_err-check_plain-clause-fault c =
    let g = signature_view c.args.signature.now in
    let bytes = c.args.bytes.now in
    let e = c.in_err-check_plain.field-0.0 in
    let read = c.in_ok-claims.ensures.read in
    let seen = c.deref.ensures.value in
    let meant = all_meant g (file_labels (counted read.0)) [] (counted read.0) (items_view c.in_ok-claims.claims.items) read.2.faultless read.3 in
    exit c.from_residual-in_err-check_plain.result (IsErrorForProve g bytes) e c.from_residual-in_err-check_plain.ensures
    (error_beyond g bytes read.0 (items_view c.in_ok-claims.claims.items) e read.1 read.2 read.3
    (subst (λ (l : List FiledClaim). AllByRecursion (IsMeant g) (items_view l) → TellsOf (IsBeyondAmong g (items_view l)) e) seen c.in_err-check_plain.ensures.err meant))

pub returns-clause-read : goal.returns-clause-read
returns-clause-read c =
    let g = signature_view c.args.signature.now in
    let read = c.in_ok-claims.ensures.read in
    (read.0, read.1, read.2, read.3, subst (λ (l : List FiledClaim). AllByRecursion (IsPlainClaim g) (items_view l)) c.deref.ensures.value c.in_ok-check_plain.ensures.ok)
