use Rattle.std.proofs.Common.{◌≡◌, sym, subst, ◌∙◌, refl, IsTrue, MatchBool}
use Rattle.kp_kore.specs.View.{axiom_sentence_view}
use Rattle.kp_kore.specs.Rules.{is_rewriting}
use Rattle.kp_kore.specs.ClaimModules.{claim_axiom, CanBeRule}
use Rattle.kp_signature.specs.View.{signature_view}
use Rattle.kp_rules.specs.Bodies.{IsReadAs, IsFaulty}
use Rattle.kp_claim_sentences.specs.Items.{sorted_view}
use Rattle.kp_claim_files.specs.Read.{reads_rule}
use Rattle.kp_claim_files.proofs.RuleUse.{can_by, faulty_can, it_rewrites}
use Rattle.kp_claim_files.proofs.used.can_be_rule.Goals as goal

pub returns-in-Ok : goal.returns-in-Ok
returns-in-Ok c v =
    let g = signature_view c.args.signature.now in
    let i = c.args.item.now in
    let made : axiom_sentence_view c.in_ok-axiom.axiom ≡ claim_axiom (sorted_view i) = c.in_ok-axiom.ensures in
    let rewriting : IsTrue (is_rewriting (axiom_sentence_view c.in_ok-axiom.axiom).pattern) = subst (λ a. IsTrue (is_rewriting a.pattern)) (sym made) (it_rewrites (sorted_view i)) in
    subst (λ b. MatchBool b (CanBeRule g (sorted_view i)) (CanBeRule g (sorted_view i) → ⊥)) (sym c.is_read.ensures)
    (can_by g i c.in-Ok.field-0-0 c.in-Ok.body v (subst (λ a. IsReadAs g a c.in-Ok.field-0-0 c.in-Ok.body) made (c.in-Ok.ensures.read rewriting)))

pub returns : goal.returns
returns c v =
    let g = signature_view c.args.signature.now in
    let i = c.args.item.now in
    let made : axiom_sentence_view c.in_ok-axiom.axiom ≡ claim_axiom (sorted_view i) = c.in_ok-axiom.ensures in
    let rewriting : IsTrue (is_rewriting (axiom_sentence_view c.in_ok-axiom.axiom).pattern) = subst (λ a. IsTrue (is_rewriting a.pattern)) (sym made) (it_rewrites (sorted_view i)) in
    faulty_can g i v (subst (IsFaulty g) made (c.in-Err-Fault.ensures.fault rewriting c.in-Err-Fault.field-0-is))
