use Rattle.std.proofs.Common.{rules, ◌≡◌, sym, ap, subst, ◌∙◌, map, string_bytes, IfOk, IfErr, OnOk, ℕ, Some}
use Rattle.std.specs.List.{AllZip}
use Rattle.kp_kore.specs.View.{sentence_view}
use Rattle.kp_signature.specs.View.{signature_view}
use Rattle.kp_kore.specs.Theory.{rewrite_axioms_from}
use Rattle.kp_modules.specs.Axioms.{axioms_view}
use Rattle.kp_modules.specs.Extending.{AreAllSound, ExtendFault, IsFirstUnsound, IsTakenFrom, extend_fault, rule_fault}
use Rattle.kp_modules.specs.Made.{AreRewriting}
use Rattle.kp_modules.proofs.Ruled.{from_rewriting}
use Rattle.kp_modules.proofs.extension.own_rules.Goals as goal

pub returns-clause-err : goal.returns-clause-err
returns-clause-err c =
    let g = signature_view c.args.signature.now in
    let ss = map sentence_view c.args.sentences.now in
    let key : string_bytes c.in_ok-key.key ≡ c.args.id.now = search rules in
    let seen : axioms_view c.deref.result.now ≡ rewrite_axioms_from c.args.id.now 1 ss = ap axioms_view c.deref.ensures.value ∙ c.in_ok-axioms.ensures ∙ ap (λ k. rewrite_axioms_from k 1 ss) key in
    subst (λ l. IfErr c.rules_read.result (λ e. (f : ExtendFault) → extend_fault e ≡ Some f → (i : ℕ) × (f ≡ rule_fault i) × IsFirstUnsound g l i)) seen
    (c.rules_read.ensures.err (subst AreRewriting (sym seen) (from_rewriting c.args.id.now 1 ss)))

pub returns-clause-sound : goal.returns-clause-sound
returns-clause-sound c =
    let g = signature_view c.args.signature.now in
    let ss = map sentence_view c.args.sentences.now in
    let key : string_bytes c.in_ok-key.key ≡ c.args.id.now = search rules in
    let seen : axioms_view c.deref.result.now ≡ rewrite_axioms_from c.args.id.now 1 ss = ap axioms_view c.deref.ensures.value ∙ c.in_ok-axioms.ensures ∙ ap (λ k. rewrite_axioms_from k 1 ss) key in
    subst (λ l. OnOk c.rules_read.result (AreAllSound g l)) seen (c.rules_read.ensures.sound (subst AreRewriting (sym seen) (from_rewriting c.args.id.now 1 ss)))

pub returns-clause-ok : goal.returns-clause-ok
returns-clause-ok c =
    let g = signature_view c.args.signature.now in
    let ss = map sentence_view c.args.sentences.now in
    let key : string_bytes c.in_ok-key.key ≡ c.args.id.now = search rules in
    let seen : axioms_view c.deref.result.now ≡ rewrite_axioms_from c.args.id.now 1 ss = ap axioms_view c.deref.ensures.value ∙ c.in_ok-axioms.ensures ∙ ap (λ k. rewrite_axioms_from k 1 ss) key in
    subst (λ l. IfOk c.rules_read.result (λ rules. AllZip (IsTakenFrom g) l rules.items)) seen (c.rules_read.ensures.ok (subst AreRewriting (sym seen) (from_rewriting c.args.id.now 1 ss)))
