use Rattle.std.proofs.Common.{rules, ◌≡◌, ap, subst, ◌∙◌, ◌≤◌, true, get_or, length}
use Rattle.std.proofs.lemmas.List.{take_all}
use Rattle.kp_signature.specs.View.{signature_view}
use Rattle.kp_kore.specs.Rules.{is_rewriting}
use Rattle.kp_modules.specs.Axioms.{axiom_view, axioms_view}
use Rattle.kp_imports.specs.Faults.{AreSound, TellsFaulty}
use Rattle.kp_modules.specs.Made.{AreMadeOf}
use Rattle.kp_imports.proofs.Chains.{exit}
use Rattle.kp_modules.proofs.Firsts.{one_more_sound, first_faulty}
use Rattle.kp_modules.proofs.Ruled.{rewriting_at, one_more_made}
use Rattle.kp_modules.proofs.rules.rules_among.Goals as goal

pub loop-i-preserved : goal.loop-i-preserved
loop-i-preserved c =
    let i = c.loop-i.i in
    let axioms = c.args.axioms.now in
    let a = c.index-axioms-i.result in
    let read : a ≡ get_or axioms i a = search rules in (
      λ names is all.
          let rewrites : is_rewriting (axiom_view a).axiom_of.pattern ≡ true = ap (λ x. is_rewriting (axiom_view x).axiom_of.pattern) read ∙ rewriting_at axioms i a all c.loop-i-test.true in
          one_more_made (signature_view c.args.signature.now) names axioms i a c.loop-i.rules.items c.push.new.self.items c.in_ok-rule_of.field-0 c.loop-i-test.true read
          (c.loop-i.invariant.0 names is all) (c.in_ok-rule_of.ensures.ok names is rewrites) c.in_ok-push.ensures.items,
      λ all.
          let rewrites : is_rewriting (axiom_view a).axiom_of.pattern ≡ true = ap (λ x. is_rewriting (axiom_view x).axiom_of.pattern) read ∙ rewriting_at axioms i a all c.loop-i-test.true in
          one_more_sound (signature_view c.args.signature.now) axioms i a c.loop-i-test.true read (c.loop-i.invariant.1 all) (c.in_ok-rule_of.ensures.sound rewrites),
    )

pub returns-in_err-rule_of-clause-err : goal.returns-in_err-rule_of-clause-err
returns-in_err-rule_of-clause-err c all =
    let g = signature_view c.args.signature.now in
    let i = c.loop-i.i in
    let axioms = c.args.axioms.now in
    let a = c.index-axioms-i.result in
    let read : a ≡ get_or axioms i a = search rules in
    let rewrites : is_rewriting (axiom_view a).axiom_of.pattern ≡ true = ap (λ x. is_rewriting (axiom_view x).axiom_of.pattern) read ∙ rewriting_at axioms i a all c.loop-i-test.true in
    exit c.from_residual.result (TellsFaulty g (axioms_view axioms)) c.in_err-rule_of.field-0.0 c.from_residual.ensures
    (λ f h. let told = c.in_err-rule_of.ensures.err rewrites f h in ((axiom_view a).number, told.0, first_faulty g axioms i a c.loop-i-test.true read (c.loop-i.invariant.1 all) told.1))

pub returns-clause-ok : goal.returns-clause-ok
returns-clause-ok c names is all =
    let past : length c.args.axioms.now ≤ c.loop-i.i = search rules in
    subst (λ l. AreMadeOf (signature_view c.args.signature.now) names (axioms_view l) c.loop-i.rules.items) (take_all c.loop-i.i c.args.axioms.now past) (c.loop-i.invariant.0 names is all)

pub returns-clause-sound : goal.returns-clause-sound
returns-clause-sound c all =
    let past : length c.args.axioms.now ≤ c.loop-i.i = search rules in
    subst (λ l. AreSound (signature_view c.args.signature.now) (axioms_view l)) (take_all c.loop-i.i c.args.axioms.now past) (c.loop-i.invariant.1 all)
