use Rattle.std.proofs.Common.{drop}
use Rattle.std.specs.List.{AllByRecursion}
use Rattle.kp_signature.specs.View.{signature_view}
use Rattle.kp_claim_sentences.specs.Items.{items_view}
use Rattle.kp_claim_files.specs.Ground.{IsPlainClaim}
use Rattle.kp_claim_files.proofs.ground.check_plain.Given as goal

abbrev pub invariant-loop-claim : goal.invariant-loop-claim
invariant-loop-claim l =
    AllByRecursion (IsPlainClaim (signature_view l.signature)) (items_view (drop l.claim-index l.claims)) → AllByRecursion (IsPlainClaim (signature_view l.signature)) (items_view l.claims)
