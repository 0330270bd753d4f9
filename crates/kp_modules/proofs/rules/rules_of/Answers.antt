use Rattle.std.proofs.Common.{◌≡◌, sym, ap, subst, ◌∙◌, map, IfOk, IfErr, OnOk}
use Rattle.kp_kore.specs.View.{module_view}
use Rattle.kp_signature.specs.View.{signature_view}
use Rattle.kp_kore.specs.Theory.{rewrite_axioms, labels_of}
use Rattle.kp_modules.specs.Axioms.{axioms_view}
use Rattle.kp_imports.specs.Faults.{AreSound, TellsFaulty}
use Rattle.kp_modules.specs.Labels.{Counts}
use Rattle.kp_modules.specs.Made.{AreMadeOf, AreRewriting}
use Rattle.kp_modules.proofs.Ruled.{all_rewriting}
use Rattle.kp_modules.proofs.rules.rules_of.Goals as goal

pub returns-clause-ok : goal.returns-clause-ok
returns-clause-ok c =
    let ms = map (λ m. module_view m.now) c.args.modules.now in
    let seen : axioms_view c.deref-2.result.now ≡ rewrite_axioms ms = ap axioms_view c.deref-2.ensures.value ∙ c.in_ok-axioms.ensures in
    let counted : axioms_view c.deref.result.now ≡ rewrite_axioms ms = ap axioms_view c.deref.ensures.value ∙ c.in_ok-axioms.ensures in
    let counts : Counts (labels_of (rewrite_axioms ms)) c.in_ok-labels.labels = subst (λ l. Counts (labels_of l) c.in_ok-labels.labels) counted c.in_ok-labels.ensures in
    subst (λ l. IfOk c.rules_among.result (λ rules. AreMadeOf (signature_view c.args.signature.now) (labels_of (rewrite_axioms ms)) l rules.items)) seen
    (c.rules_among.ensures.ok (labels_of (rewrite_axioms ms)) counts (subst AreRewriting (sym seen) (all_rewriting ms)))

pub returns-clause-err : goal.returns-clause-err
returns-clause-err c =
    let ms = map (λ m. module_view m.now) c.args.modules.now in
    let seen : axioms_view c.deref-2.result.now ≡ rewrite_axioms ms = ap axioms_view c.deref-2.ensures.value ∙ c.in_ok-axioms.ensures in
    subst (λ l. IfErr c.rules_among.result (TellsFaulty (signature_view c.args.signature.now) l)) seen (c.rules_among.ensures.err (subst AreRewriting (sym seen) (all_rewriting ms)))

pub returns-clause-sound : goal.returns-clause-sound
returns-clause-sound c =
    let ms = map (λ m. module_view m.now) c.args.modules.now in
    let seen : axioms_view c.deref-2.result.now ≡ rewrite_axioms ms = ap axioms_view c.deref-2.ensures.value ∙ c.in_ok-axioms.ensures in
    subst (λ l. OnOk c.rules_among.result (AreSound (signature_view c.args.signature.now) l)) seen (c.rules_among.ensures.sound (subst AreRewriting (sym seen) (all_rewriting ms)))
