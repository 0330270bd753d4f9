use Rattle.std.proofs.Common.{◌≡◌, sym, subst, false, map, string_bytes}
use Rattle.std.specs.Prelude.{MatchOption}
use Rattle.std.proofs.lemmas.Result.{err_from_is_err_and}
use Rattle.kp_kore.specs.View.{view}
use Rattle.kp_ground.specs.View.{value_view}
use Rattle.kp_kore.specs.Instance.{Valuation, instance}
use Rattle.kp_kore.specs.Numbers.{computes_wide}
use Rattle.kp_kore.specs.Steps.{IsUnknown}
use Rattle.kp_run.specs.Runs.{IsFirstUnknown}
use Rattle.kp_run.proofs.Theories.{told_here}
use Rattle.kp_successors.specs.Successors.{AreSuccessors}
use Rattle.kp_successors.proofs.Stepping.{same_value, has_sort, not_too_wide, refused_value, refused_rule, refused_foreign}
use Rattle.kp_signature.specs.View.{signature_view}
use Rattle.kp_successors.specs.Errors.{IsUnvalued}
use Rattle.kp_successors.proofs.step.ground_step.Goals as goal

pub returns-in_err-value-clause-refused : goal.returns-in_err-value-clause-refused
returns-in_err-value-clause-refused c = λ t s u runs state.
    let p = err_from_is_err_and c.from_residual.result c.from_residual.ensures.1 in
    rw (p.1, p.2) (refused_value t c.args.rules.now (view c.args.pattern.now) s u c.in_err-value.field-0.0 runs state
    (subst (λ s. IsUnvalued (signature_view s) (view c.args.pattern.now) c.in_err-value.field-0.0) c.deref.ensures c.in_err-value.ensures.refused))

pub returns-in_err-nexts-clause-refused : goal.returns-in_err-nexts-clause-refused
returns-in_err-nexts-clause-refused c = λ t s u runs state.
    let w = value_view c.in_ok-value.value in
    let same = same_value t c.args.rules.now (view c.args.pattern.now) s u w runs state (subst (λ s. (v : Valuation) → instance (signature_view s) v (view c.args.pattern.now) ≡ w) c.deref.ensures c.in_ok-value.ensures.meant) in
    let sorted = has_sort t (view c.args.pattern.now) s u w state same in
    let p = err_from_is_err_and c.from_residual-in_err-nexts.result c.from_residual-in_err-nexts.ensures.1 in
    rw (p.1, p.2) (refused_rule t (view c.args.pattern.now) u w c.in_err-nexts.field-0.0 same (c.in_err-nexts.ensures.refused t runs sorted))

pub returns-in_err-rule-clause-refused : goal.returns-in_err-rule-clause-refused
returns-in_err-rule-clause-refused c = λ t s u runs state.
    let p = err_from_is_err_and c.from_residual-in_err-rule.result c.from_residual-in_err-rule.ensures.1 in
    rw (p.1, p.2) tt

pub returns-in_err-foreign-in-Some-clause-refused : goal.returns-in_err-foreign-in-Some-clause-refused
returns-in_err-foreign-in-Some-clause-refused c = λ t s u runs state.
    let p = err_from_is_err_and c.from_residual-in_err-foreign-in-Some.result c.from_residual-in_err-foreign-in-Some.ensures.1 in
    rw (p.1, p.2) tt

pub returns-in-Some-clause-refused : goal.returns-in-Some-clause-refused
returns-in-Some-clause-refused c = λ t s u runs state.
    let w = value_view c.in_ok-value.value in
    let same = same_value t c.args.rules.now (view c.args.pattern.now) s u w runs state (subst (λ s. (v : Valuation) → instance (signature_view s) v (view c.args.pattern.now) ≡ w) c.deref.ensures c.in_ok-value.ensures.meant) in
    let sorted = has_sort t (view c.args.pattern.now) s u w state same in
    let told = told_here t c.args.rules.now w c.in_ok-rule.field-0 runs sorted c.in_ok-rule.ensures in
    let first : IsFirstUnknown t w (string_bytes c.in-Some.rule.now.id.value) = subst (λ o. MatchOption o (¬ IsUnknown t w) (λ f. IsFirstUnknown t w (string_bytes f.now.id.value))) c.in-Some.is told in
    let narrow = not_too_wide t c.args.rules.now (view c.args.pattern.now) u w runs same
    (subst (λ s. (v : Valuation) → computes_wide (signature_view s) v (view c.args.pattern.now) ≡ false) c.deref.ensures c.in_ok-value.ensures.narrow)
    (c.in_ok-nexts.ensures.narrow t runs sorted) in
    refused_foreign t (view c.args.pattern.now) u w (string_bytes c.in-Some.rule.now.id.value) c.in_ok-foreign-in-Some.field-0 same narrow first c.in_ok-foreign-in-Some.ensures

pub returns-clause-successors : goal.returns-clause-successors
returns-clause-successors c = λ t s u runs state.
    let w = value_view c.in_ok-value.value in
    let same = same_value t c.args.rules.now (view c.args.pattern.now) s u w runs state (subst (λ s. (v : Valuation) → instance (signature_view s) v (view c.args.pattern.now) ≡ w) c.deref.ensures c.in_ok-value.ensures.meant) in
    let sorted = has_sort t (view c.args.pattern.now) s u w state same in
    let told = told_here t c.args.rules.now w c.in_ok-rule.field-0 runs sorted c.in_ok-rule.ensures in
    let known : ¬ IsUnknown t w = subst (λ o. MatchOption o (¬ IsUnknown t w) (λ f. IsFirstUnknown t w (string_bytes f.now.id.value))) c.in-None.is told in
    subst (λ x. AreSuccessors t x t.rules (map view c.in_ok-nexts.nexts.items)) (sym same) (c.in_ok-nexts.ensures.successors t runs sorted known)

pub returns-clause-known : goal.returns-clause-known
returns-clause-known c = λ t s u runs state.
    let w = value_view c.in_ok-value.value in
    let same = same_value t c.args.rules.now (view c.args.pattern.now) s u w runs state (subst (λ s. (v : Valuation) → instance (signature_view s) v (view c.args.pattern.now) ≡ w) c.deref.ensures c.in_ok-value.ensures.meant) in
    let sorted = has_sort t (view c.args.pattern.now) s u w state same in
    let told = told_here t c.args.rules.now w c.in_ok-rule.field-0 runs sorted c.in_ok-rule.ensures in
    let known : ¬ IsUnknown t w = subst (λ o. MatchOption o (¬ IsUnknown t w) (λ f. IsFirstUnknown t w (string_bytes f.now.id.value))) c.in-None.is told in
    subst (λ x. ¬ IsUnknown t x) (sym same) known

pub returns-clause-narrow : goal.returns-clause-narrow
returns-clause-narrow c = λ t s u runs state.
    let w = value_view c.in_ok-value.value in
    let same = same_value t c.args.rules.now (view c.args.pattern.now) s u w runs state (subst (λ s. (v : Valuation) → instance (signature_view s) v (view c.args.pattern.now) ≡ w) c.deref.ensures c.in_ok-value.ensures.meant) in
    let sorted = has_sort t (view c.args.pattern.now) s u w state same in
    not_too_wide t c.args.rules.now (view c.args.pattern.now) u w runs same
    (subst (λ s. (v : Valuation) → computes_wide (signature_view s) v (view c.args.pattern.now) ≡ false) c.deref.ensures c.in_ok-value.ensures.narrow)
    (c.in_ok-nexts.ensures.narrow t runs sorted)
