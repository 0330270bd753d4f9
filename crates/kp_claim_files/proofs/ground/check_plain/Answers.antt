use Rattle.std.proofs.Common.{rules, ◌≤◌, length}
use Rattle.kp_signature.specs.View.{signature_view}
use Rattle.kp_claims.specs.Faults.{TellsOf}
use Rattle.kp_claims.proofs.OneMore.{exit}
use Rattle.kp_claim_sentences.specs.Items.{items_view}
use Rattle.kp_claim_files.specs.Ground.{IsBeyondAmong}
use Rattle.kp_claim_files.proofs.GroundClaims.{beyond_among, plain_more, plain_all}
use Rattle.kp_claim_files.proofs.ground.check_plain.Goals as goal

pub loop-claim-init : goal.loop-claim-init
loop-claim-init c = λ all. all

pub returns-in_err-check_claim-clause-err : goal.returns-in_err-check_claim-clause-err
returns-in_err-check_claim-clause-err c meant =
    let g = signature_view c.args.signature.now in
    let e = c.in_err-check_claim.field-0.0 in
    exit c.from_residual.result (TellsOf (IsBeyondAmong g (items_view c.args.claims.now))) e c.from_residual.ensures
    (beyond_among g c.args.claims.now c.loop-claim.claim-index c.claim-item.result e c.loop-claim-test.true c.claim-item.is meant c.in_err-check_claim.ensures.err)

pub loop-claim-preserved : goal.loop-claim-preserved
loop-claim-preserved c =
    plain_more (signature_view c.args.signature.now) c.args.claims.now c.loop-claim.claim-index c.claim-item.result c.loop-claim-test.true c.claim-item.is c.in_ok-check_claim.ensures.ok c.loop-claim.invariant

pub returns-clause-ok : goal.returns-clause-ok
returns-clause-ok c =
    let past : length c.args.claims.now ≤ c.loop-claim.claim-index = search rules in
    plain_all (signature_view c.args.signature.now) c.args.claims.now c.loop-claim.claim-index past c.loop-claim.invariant
