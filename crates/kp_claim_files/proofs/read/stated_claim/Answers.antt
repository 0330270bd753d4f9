use Rattle.std.proofs.Common.{◌≡◌, ◌++◌, sym, subst, Some, option_to_list, string_bytes}
use Rattle.kp_kore.specs.View.{patterns_view, axiom_sentence_view}
use Rattle.kp_signature.specs.View.{signature_view}
use Rattle.kp_claims.specs.Claims.{label_of}
use Rattle.kp_claims.specs.Faults.{label_fault, TellsOf}
use Rattle.kp_names.specs.Met.{Lists}
use Rattle.kp_claims.specs.Sides.{sides_view}
use Rattle.kp_claims.proofs.OneMore.{exit}
use Rattle.kp_claim_sentences.specs.Faults.{early_fault}
use Rattle.kp_claim_files.proofs.FirstFaults.{told_label, made_clear}
use Rattle.kp_claim_files.proofs.read.stated_claim.Goals as goal

pub returns-in_err-label-clause-err : goal.returns-in_err-label-clause-err
returns-in_err-label-clause-err c before is =
    let g = signature_view c.args.signature.now in
    let s = axiom_sentence_view c.args.statement.now in
    let e = c.in_err-label.field-0.0 in
    exit c.from_residual-in_err-label.result (TellsOf (λ f. early_fault g before s ≡ Some f)) e c.from_residual-in_err-label.ensures
    (told_label g before s e c.in_ok-sides.ensures.none
    (subst (λ as_. TellsOf (λ f. label_fault before (label_of (patterns_view as_)) ≡ Some f) e) c.deref.ensures.value (c.in_err-label.ensures.err before is)))

pub returns-clause-clear : goal.returns-clause-clear
returns-clause-clear c =
    let g = signature_view c.args.signature.now in
    let s = axiom_sentence_view c.args.statement.now in
    let label : label_of s.attributes ≡ Some (string_bytes c.in_ok-label.label) = subst (λ as_. label_of (patterns_view as_) ≡ Some (string_bytes c.in_ok-label.label)) c.deref.ensures.value c.in_ok-label.ensures.label in
    made_clear g s (sides_view c.in_ok-sides.sides) (string_bytes c.in_ok-label.label) c.in_ok-item_of.field-0 c.in_ok-sides.ensures.ok label c.in_ok-check_sides.ensures.verified c.in_ok-item_of.ensures.item

pub returns-clause-labels : goal.returns-clause-labels
returns-clause-labels c before is =
    let s = axiom_sentence_view c.args.statement.now in
    let label : label_of s.attributes ≡ Some (string_bytes c.in_ok-label.label) = subst (λ as_. label_of (patterns_view as_) ≡ Some (string_bytes c.in_ok-label.label)) c.deref.ensures.value c.in_ok-label.ensures.label in
    subst (λ o. Lists (before ++ option_to_list o) c.take_label.new.labels) (sym label) (c.in_ok-label.ensures.ok before is).1
