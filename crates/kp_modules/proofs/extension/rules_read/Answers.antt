use Rattle.std.proofs.Common.{rules, ◌≡◌, ap, sym, subst, ◌∙◌, ◌≤◌, ◌++◌, ◌∷◌, [], true, take, get_or, length, ℕ, List, Some}
use Rattle.std.specs.List.{AllZip}
use Rattle.std.proofs.lemmas.List.{take_all}
use Rattle.kp_signature.specs.View.{signature_view}
use Rattle.kp_kore.specs.Rules.{is_rewriting}
use Rattle.kp_rules.specs.declared.rule.Rule.{Rule}
use Rattle.kp_modules.specs.Axioms.{axiom_view, axioms_view}
use Rattle.kp_modules.specs.Extending.{AreAllSound, ExtendFault, IsFirstUnsound, IsTakenFrom, extend_fault, rule_fault}
use Rattle.kp_modules.proofs.Gathering.{zip_push}
use Rattle.kp_modules.proofs.Ruled.{axioms_more, rewriting_at}
use Rattle.kp_modules.proofs.Unsound.{handed, one_more_all_sound, first_unsound}
use Rattle.kp_modules.proofs.extension.rules_read.Goals as goal

pub loop-i-preserved : goal.loop-i-preserved
loop-i-preserved c =
    let g = signature_view c.args.signature.now in
    let i = c.loop-i.i in
    let axioms = c.args.axioms.now in
    let a = c.index-axioms-i.result in
    let read : a ≡ get_or axioms i a = search rules in (
      λ all.
          let rewrites : is_rewriting (axiom_view a).axiom_of.pattern ≡ true = ap (λ x. is_rewriting (axiom_view x).axiom_of.pattern) read ∙ rewriting_at axioms i a all c.loop-i-test.true in
          subst (λ l. AllZip (IsTakenFrom g) l c.push.new.self.items) (sym (axioms_more axioms i a c.loop-i-test.true read))
          (subst (AllZip (IsTakenFrom g) (axioms_view (take i axioms) ++ axiom_view a ∷ [])) (sym {A = List Rule} c.in_ok-push.ensures.items)
          (zip_push (IsTakenFrom g) (axioms_view (take i axioms)) c.loop-i.rules.items (axiom_view a) c.in_ok-rule_read.field-0 (c.loop-i.invariant.0 all) (c.in_ok-rule_read.ensures.ok rewrites))),
      λ all.
          let rewrites : is_rewriting (axiom_view a).axiom_of.pattern ≡ true = ap (λ x. is_rewriting (axiom_view x).axiom_of.pattern) read ∙ rewriting_at axioms i a all c.loop-i-test.true in
          one_more_all_sound g axioms i a c.loop-i-test.true read (c.loop-i.invariant.1 all) (c.in_ok-rule_read.ensures.sound rewrites),
    )

pub returns-in_err-rule_read-clause-err : goal.returns-in_err-rule_read-clause-err
returns-in_err-rule_read-clause-err c all =
    let g = signature_view c.args.signature.now in
    let i = c.loop-i.i in
    let axioms = c.args.axioms.now in
    let a = c.index-axioms-i.result in
    let read : a ≡ get_or axioms i a = search rules in
    let rewrites : is_rewriting (axiom_view a).axiom_of.pattern ≡ true = ap (λ x. is_rewriting (axiom_view x).axiom_of.pattern) read ∙ rewriting_at axioms i a all c.loop-i-test.true in
    handed c.from_residual.result (λ e. (f : ExtendFault) → extend_fault e ≡ Some f → (k : ℕ) × (f ≡ rule_fault k) × IsFirstUnsound g (axioms_view axioms) k) c.in_err-rule_read.field-0.0 c.from_residual.ensures
    (λ f h. let told = c.in_err-rule_read.ensures.err rewrites f h in ((axiom_view a).number, told.0, first_unsound g axioms i a c.loop-i-test.true read (c.loop-i.invariant.1 all) told.1))

pub returns-clause-ok : goal.returns-clause-ok
returns-clause-ok c all =
    let past : length c.args.axioms.now ≤ c.loop-i.i = search rules in
    subst (λ l. AllZip (IsTakenFrom (signature_view c.args.signature.now)) (axioms_view l) c.loop-i.rules.items) (take_all c.loop-i.i c.args.axioms.now past) (c.loop-i.invariant.0 all)

pub returns-clause-sound : goal.returns-clause-sound
returns-clause-sound c all =
    let past : length c.args.axioms.now ≤ c.loop-i.i = search rules in
    subst (λ l. AreAllSound (signature_view c.args.signature.now) (axioms_view l)) (take_all c.loop-i.i c.args.axioms.now past) (c.loop-i.invariant.1 all)
