use Rattle.std.proofs.Common.{inl, inr, sym, subst}
use Rattle.std.specs.List.{AllZip}
use Rattle.kp_signature.specs.View.{signature_view}
use Rattle.kp_claims.specs.Faults.{TellsOf}
use Rattle.kp_claims.specs.Sentences.{seen}
use Rattle.kp_claims.proofs.Claimed.{tells_map}
use Rattle.kp_claims.proofs.OneMore.{exit}
use Rattle.kp_claim_sentences.specs.Claims.{IsStatedBy}
use Rattle.kp_claim_sentences.specs.Faults.{IsFirstFault, IsCircle, IsFaultOfFile}
use Rattle.kp_claim_sentences.specs.Items.{items_view}
use Rattle.kp_claim_files.proofs.read.claims_of.Goals as goal

pub returns-in_err-items-clause-err : goal.returns-in_err-items-clause-err
returns-in_err-items-clause-err c =
    let g = signature_view c.args.signature.now in
    let ss = seen c.args.sentences.now in
    let e = c.in_err-items.field-0.0 in
    exit c.from_residual-in_err-items.result (TellsOf (IsFaultOfFile g ss)) e c.from_residual-in_err-items.ensures
    (tells_map (IsFirstFault g ss) (IsFaultOfFile g ss) (λ f h. inl h) e (c.in_err-items.ensures.err c.in_ok-file.ensures))

pub returns-in_err-check_circles-clause-err : goal.returns-in_err-check_circles-clause-err
returns-in_err-check_circles-clause-err c =
    let g = signature_view c.args.signature.now in
    let ss = seen c.args.sentences.now in
    let e = c.in_err-check_circles.field-0.0 in
    exit c.from_residual-in_err-check_circles.result (TellsOf (IsFaultOfFile g ss)) e c.from_residual-in_err-check_circles.ensures
    (tells_map (IsCircle g ss) (IsFaultOfFile g ss) (λ f h. inr h) e
    (c.in_err-check_circles.ensures.err g ss c.in_ok-file.ensures.places (subst (λ l. AllZip IsStatedBy ss (items_view l)) (sym c.deref.ensures.value) c.in_ok-items.ensures.claims) (c.in_ok-items.ensures.faultless c.in_ok-file.ensures)))

pub returns-clause-faultless : goal.returns-clause-faultless
returns-clause-faultless c =
    let ss = seen c.args.sentences.now in
    record {
      faultless = c.in_ok-items.ensures.faultless c.in_ok-file.ensures;
      apart = c.in_ok-check_circles.ensures.ok ss c.in_ok-file.ensures.places (subst (λ l. AllZip IsStatedBy ss (items_view l)) (sym c.deref.ensures.value) c.in_ok-items.ensures.claims);
    }
