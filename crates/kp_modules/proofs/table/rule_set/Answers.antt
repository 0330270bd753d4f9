use Rattle.std.proofs.Common.{◌≡◌, sym, ap, subst, ◌∙◌, map}
use Rattle.std.proofs.lemmas.Result.{err_from_is_err_and}
use Rattle.kp_kore.specs.Signature.{signature_of}
use Rattle.kp_kore.specs.View.{module_view}
use Rattle.kp_kore.specs.Theory.{rewrite_axioms, labels_of}
use Rattle.kp_signature.specs.View.{signature_view, sentences_of}
use Rattle.kp_imports.specs.Faults.{AreSound, TellsFaulty}
use Rattle.kp_modules.specs.Made.{AreMadeOf}
use Rattle.kp_imports.proofs.Chains.{exit}
use Rattle.kp_modules.proofs.Ruled.{runs, sentences_seen}
use Rattle.kp_modules.proofs.table.rule_set.Goals as goal

pub returns-in_err-signature-2-clause-err : goal.returns-in_err-signature-2-clause-err
returns-in_err-signature-2-clause-err c =
    let axioms = rewrite_axioms (map (λ m. module_view m.now) c.args.modules.now) in
    let p = err_from_is_err_and c.from_residual-in_err-signature-2.result c.from_residual-in_err-signature-2.ensures.1 in
    rw (p.1) (subst (TellsFaulty (signature_of (sentences_of c.args.modules.now)) axioms) (sym p.2) (λ f is. absurd (cc)))

pub returns-in_err-rules-clause-err : goal.returns-in_err-rules-clause-err
returns-in_err-rules-clause-err c =
    let axioms = rewrite_axioms (map (λ m. module_view m.now) c.args.modules.now) in
    let shared : signature_view c.deref.result.now ≡ signature_of (sentences_of c.args.modules.now) = ap signature_view (c.deref.ensures ∙ c.in_ok-signature-2.ensures.ok) ∙ c.in_ok-signature.ensures in
    exit c.from_residual-in_err-rules.result (TellsFaulty (signature_of (sentences_of c.args.modules.now)) axioms) c.in_err-rules.field-0.0 c.from_residual-in_err-rules.ensures
    (subst (λ g. TellsFaulty g axioms c.in_err-rules.field-0.0) shared c.in_err-rules.ensures.err)

pub returns-clause-ok : goal.returns-clause-ok
returns-clause-ok c =
    let ms = map (λ m. module_view m.now) c.args.modules.now in
    let set = c.in_ok-set.set in
    let shared : signature_view c.deref.result.now ≡ signature_view set.signature.value = ap signature_view c.deref.ensures ∙ ap (λ s. signature_view s.value) (sym c.in_ok-set.ensures.signature) in
    runs ms set
    (sym shared ∙ ap signature_view (c.deref.ensures ∙ c.in_ok-signature-2.ensures.ok) ∙ c.in_ok-signature.ensures ∙ ap signature_of (sentences_seen c.args.modules.now))
    (subst (λ rs. AreMadeOf (signature_view set.signature.value) (labels_of (rewrite_axioms ms)) (rewrite_axioms ms) rs.items) (sym c.in_ok-set.ensures.rules)
    (subst (λ g. AreMadeOf g (labels_of (rewrite_axioms ms)) (rewrite_axioms ms) c.in_ok-rules.rules.items) shared c.in_ok-rules.ensures.ok))

pub returns-clause-sound : goal.returns-clause-sound
returns-clause-sound c =
    let shared : signature_view c.deref.result.now ≡ signature_of (sentences_of c.args.modules.now) = ap signature_view (c.deref.ensures ∙ c.in_ok-signature-2.ensures.ok) ∙ c.in_ok-signature.ensures in
    subst (λ g. AreSound g (rewrite_axioms (map (λ m. module_view m.now) c.args.modules.now))) shared c.in_ok-rules.ensures.sound
