use Rattle.kp_kore.specs.View.{axiom_sentence_view}
use Rattle.kp_signature.specs.View.{signature_view}
use Rattle.kp_claims.specs.Faults.{TellsOf}
use Rattle.kp_claims.proofs.OneMore.{exit}
use Rattle.kp_claim_sentences.specs.Faults.{IsFaultOfClaim}
use Rattle.kp_claim_files.proofs.FirstFaults.{told_early, told_use}
use Rattle.kp_claim_files.proofs.read.claim_of.Goals as goal

pub returns-in_err-item-clause-err : goal.returns-in_err-item-clause-err
returns-in_err-item-clause-err c f before notes is =
    let g = signature_view c.args.signature.now in
    let s = axiom_sentence_view c.args.statement.now in
    let e = c.in_err-item.field-0.0 in
    exit c.from_residual.result (TellsOf (IsFaultOfClaim g f before s)) e c.from_residual.ensures (told_early g f before s e (c.in_err-item.ensures.err before is))

pub returns-in_err-check_use-clause-err : goal.returns-in_err-check_use-clause-err
returns-in_err-check_use-clause-err c f before notes is =
    let g = signature_view c.args.signature.now in
    let s = axiom_sentence_view c.args.statement.now in
    let e = c.in_err-check_use.field-0.0 in
    exit c.from_residual-in_err-check_use.result (TellsOf (IsFaultOfClaim g f before s)) e c.from_residual-in_err-check_use.ensures
    (told_use g f before s e (c.in_ok-item.ensures.none before is) (c.in_err-check_use.ensures.err f s notes c.in_ok-item.ensures.clear))

pub returns-clause-claim : goal.returns-clause-claim
returns-clause-claim c = c.in_ok-item.ensures.clear.stated

pub returns-clause-faultless : goal.returns-clause-faultless
returns-clause-faultless c f before notes is =
    let s = axiom_sentence_view c.args.statement.now in
    let used = c.in_ok-check_use.ensures.ok f s notes c.in_ok-item.ensures.clear in
    (c.in_ok-item.ensures.none before is, used.0, used.1)
