use Rattle.std.proofs.Common.{sym, ap, ◌∙◌, map, drop, [], ◌∷◌, ◌++◌, ◌+◌}
use Rattle.std.proofs.lemmas.List.{append_assoc}
use Rattle.kp_kore.specs.Syntax.{axiom_sentence}
use Rattle.kp_kore.specs.View.{sentence_view}
use Rattle.kp_kore.specs.ClaimModules.{claim_axiom}
use Rattle.kp_claim_sentences.specs.Items.{sorted_view}
use Rattle.kp_claim_files.specs.Modules.{claims_at}
use Rattle.kp_claim_files.proofs.ClaimsAt.{claims_on}
use Rattle.kp_claim_files.proofs.module.add_axioms.Goals as goal

pub loop-i-preserved : goal.loop-i-preserved
loop-i-preserved c =
    let claims = c.args.claims.now in
    let places = c.args.places.now in
    let i = c.loop-i.i in
    let item = c.claim_at.result.now in
    let before = map sentence_view c.loop-i.sentences.items in
    let rest = map (λ k. axiom_sentence (claim_axiom k)) (claims_at claims (drop (i + 1) places)) in
    ap (λ l. l ++ rest) c.in_ok-add_axiom.ensures
    ∙ append_assoc before (axiom_sentence (claim_axiom (sorted_view item)) ∷ []) rest
    ∙ ap (λ ks. before ++ map (λ k. axiom_sentence (claim_axiom k)) ks) (sym (claims_on claims places i item c.loop-i-test.true c.claim_at.ensures))
    ∙ c.loop-i.invariant
