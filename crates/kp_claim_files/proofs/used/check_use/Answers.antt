use Rattle.std.proofs.Common.{◌≡◌, ap, sym, ◌∙◌, not, Bool, List, Option, None, Some, inl, inr, is_some, String, Global}
use Rattle.std.specs.Prelude.{◌⊎◌}
use Rattle.std.specs.List.{find, list_any}
use Rattle.std.specs.Option.{option_map}
use Rattle.std.specs.Str.{bytes_eq}
use Rattle.kp_kore.specs.Syntax.{Text}
use Rattle.kp_kore.specs.View.{names_view}
use Rattle.kp_signature.specs.View.{signature_view}
use Rattle.kp_signature.proofs.ScopeLemmas.{ok_map, err_map}
use Rattle.kp_claims.specs.Faults.{unknown_label, TellsOf}
use Rattle.kp_claims.proofs.Claimed.{tells_map}
use Rattle.kp_claims.proofs.OneMore.{exit}
use Rattle.kp_claim_sentences.specs.Faults.{IsRuleFault, IsUsable, unknown_fault}
use Rattle.kp_claim_sentences.specs.Noted.{has_name}
use Rattle.kp_claim_files.proofs.RuleUse.{place_listed, unknown_same}
use Rattle.kp_claim_files.proofs.used.check_use.Goals as goal

pub returns-in_err-check_rule-clause-err : goal.returns-in_err-check_rule-clause-err
returns-in_err-check_rule-clause-err c f s notes clear =
    let g = signature_view c.args.signature.now in
    let e = c.in_err-check_rule.field-0.0 in
    exit c.from_residual.result (TellsOf (λ x. IsRuleFault g f s x ⊎ (IsUsable g f s × (unknown_fault f s ≡ Some x)))) e c.from_residual.ensures
    (tells_map (IsRuleFault g f s) (λ x. IsRuleFault g f s x ⊎ (IsUsable g f s × (unknown_fault f s ≡ Some x))) (λ x h. inl h) e (c.in_err-check_rule.ensures.err f s notes clear))

pub returns-clause-ok : goal.returns-clause-ok
returns-clause-ok c f s notes clear =
    let has : Text → Bool = has_name c.args.file.now.places in
    let look : List (String Global) → Option Text = λ ls. find (λ l. not (has l)) (names_view ls) in
    let is : (n : Text) → has n ≡ list_any (bytes_eq n) f.labels = λ n. ap is_some (notes.places n) ∙ place_listed n f.labels in
    ok_map c.check_known.result
    (λ h. (c.in_ok-check_rule.ensures.ok f s notes clear, sym (unknown_same f s c.args.item.now has is clear.stated) ∙ ap (option_map unknown_label) (ap look (sym c.deref.ensures.value) ∙ h)))
    c.check_known.ensures.ok

pub returns-clause-err : goal.returns-clause-err
returns-clause-err c f s notes clear =
    let g = signature_view c.args.signature.now in
    let has : Text → Bool = has_name c.args.file.now.places in
    let look : List (String Global) → Option Text = λ ls. find (λ l. not (has l)) (names_view ls) in
    let is : (n : Text) → has n ≡ list_any (bytes_eq n) f.labels = λ n. ap is_some (notes.places n) ∙ place_listed n f.labels in
    let usable : IsUsable g f s = c.in_ok-check_rule.ensures.ok f s notes clear in
    err_map c.check_known.result
    (λ e t. tells_map (λ x. option_map unknown_label (look c.deref.result.now) ≡ Some x) (λ x. IsRuleFault g f s x ⊎ (IsUsable g f s × (unknown_fault f s ≡ Some x)))
    (λ x h. inr (usable, sym (unknown_same f s c.args.item.now has is clear.stated) ∙ ap (λ ls. option_map unknown_label (look ls)) (sym c.deref.ensures.value) ∙ h)) e t)
    c.check_known.ensures.err
