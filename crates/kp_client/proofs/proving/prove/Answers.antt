use Rattle.std.proofs.Common.{◌≡◌, [], subst}
use Rattle.kp_kore.specs.Parts.{free_variables}
use Rattle.kp_graph.specs.Says.{TreeSays}
use Rattle.std.specs.Prelude.{IfOk}
use Rattle.kp_kore.specs.Claims.{ReachabilityClaim, Holds}
use Rattle.kp_kore.specs.ClaimView.{claim_view}
use Rattle.kp_graph.specs.TreeView.{tree_view}
use Rattle.kp_client.specs.Rounds.{passed, failed_at}
use Rattle.kp_client.specs.Sound.{IsGround, IsStuckAt}
use Rattle.kp_client.specs.View.{outcome_view}
use Rattle.kp_client.proofs.Places.{claim_at}
use Rattle.kp_client.proofs.proving.prove.Goals as goal

pub returns-clause-says : goal.returns-clause-says
returns-clause-says g c i t at serves closed =
    let x = c.index-claims-place.result in
    let same : claim_view x.claim ≡ i.claim.claim = claim_at c.args.claims.now c.args.place x i c.requires.place c.index-claims-place.is at in
    subst (λ (claim : ReachabilityClaim). free_variables claim.right ≡ [] → IfOk c.prove_claim.result (λ r. TreeSays t.theory [] [] claim (tree_view r.1))) same
    (c.prove_claim.ensures.says t serves) closed

pub returns-clause-holds : goal.returns-clause-holds
returns-clause-holds g c i t at serves ground =
    let x = c.index-claims-place.result in
    let same : claim_view x.claim ≡ i.claim.claim = claim_at c.args.claims.now c.args.place x i c.requires.place c.index-claims-place.is at in
    subst (λ (claim : ReachabilityClaim). IsGround claim → IfOk c.prove_claim.result (λ r. outcome_view r.0 ≡ passed → Holds t.theory claim)) same
    (c.prove_claim.ensures.holds t serves) ground

pub returns-clause-stuck : goal.returns-clause-stuck
returns-clause-stuck g c i t n at serves =
    let x = c.index-claims-place.result in
    let same : claim_view x.claim ≡ i.claim.claim = claim_at c.args.claims.now c.args.place x i c.requires.place c.index-claims-place.is at in
    subst (λ (claim : ReachabilityClaim). IfOk c.prove_claim.result (λ r. outcome_view r.0 ≡ failed_at n → IsStuckAt t.theory claim (tree_view r.1) n)) same
    (c.prove_claim.ensures.stuck t n serves)
