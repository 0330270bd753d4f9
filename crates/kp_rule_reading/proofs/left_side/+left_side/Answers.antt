use Rattle.std.proofs.Common.{rules, ◌≡◌, ◌∙◌, sym, ap, subst, take, length, ◌+◌, string_bytes, arith}
use Rattle.std.proofs.lemmas.Result.{err_from_is_err_and, IfErr-weaker}
use Rattle.kp_kore.specs.Syntax.{application}
use Rattle.kp_kore.specs.View.{view, sorts_view, patterns_view}
use Rattle.kp_kore.specs.Signature.{meaning_of, construction, injection, interpretation}
use Rattle.kp_kore.specs.declared.pattern.Pattern.{the_lemmas}
use Rattle.kp_signature.specs.View.{signature_view}
use Rattle.kp_signature.specs.Meanings.{function_view, meaning_view}
use Rattle.kp_compile.specs.Verified.{IsVerifiedLeftTerm}
use Rattle.kp_compile.proofs.Compiled.{zip_push}
use Rattle.kp_compile.proofs.Taken.{inj_takes_one, not_interpreted}
use Rattle.kp_compile.proofs.VerifiedParts.{left_arguments, at_index}
use Rattle.kp_rules.specs.Skeletons.{skeleton_view}
use Rattle.kp_rules.specs.LeftForms.{left_form}
use Rattle.kp_rule_reading.specs.LeftForms.{AreLeftForms}
use Rattle.kp_rule_reading.proofs.LeftForms.{built_is}
use Rattle.kp_rule_reading.proofs.left_side.+left_side.Goals as goal
use Rattle.kp_rule_reading.proofs.left_side.+left_side.Goals.{applied_side-in_default-via-then-arguments-lt1, applied_side-in_default-via-else-arguments-lt1+else-arguments-lt2}

pub applied_side-returns-in_ok-built-in-Constructor-clause-form : goal.applied_side-returns-in_ok-built-in-Constructor-clause-form
applied_side-returns-in_ok-built-in-Constructor-clause-form t c =
    let g = signature_view c.args.signature.now in
    let means : meaning_of g (string_bytes c.args.name.now) ≡ construction = ap (meaning_of g) (sym c.deref.ensures) ∙ sym c.meaning_of.ensures ∙ ap meaning_view c.in-Constructor.is in
    built_is g (string_bytes c.args.name.now) c.args.arguments.now c.in_ok-forms-in-Constructor.forms.items (skeleton_view c.in_ok-built-in-Constructor.field-0) means c.in_ok-forms-in-Constructor.ensures.forms c.in_ok-built-in-Constructor.ensures

pub applied_side-returns-in_err-forms-in-Constructor-clause-refused : goal.applied_side-returns-in_err-forms-in-Constructor-clause-refused
applied_side-returns-in_err-forms-in-Constructor-clause-refused t c =
    let p = err_from_is_err_and c.from_residual.result c.from_residual.ensures.1 in
    rw (p.1, p.2) (λ ss verified. c.in_err-forms-in-Constructor.ensures.refused (left_arguments (signature_view c.args.signature.now) (string_bytes c.args.name.now) ss c.args.arguments.now verified))

pub applied_side-returns-in-len1-clause-refused : goal.applied_side-returns-in-len1-clause-refused
applied_side-returns-in-len1-clause-refused t c =
    let g = signature_view c.args.signature.now in
    IfErr-weaker c.left_side_of.result _ _
    (λ e told ss verified. told
    (at_index (λ q. IsVerifiedLeftTerm g (view q)) c.args.arguments.now 0 c.argument-item.result (omega arith) c.argument-item.is (left_arguments g (string_bytes c.args.name.now) ss c.args.arguments.now verified)))
    c.left_side_of.ensures.refused

pub applied_side-returns-in_default-clause-refused : goal.applied_side-returns-in_default-clause-refused
applied_side-returns-in_default-clause-refused t c = λ ss verified.
    let g = signature_view c.args.signature.now in
    let means : meaning_of g (string_bytes c.args.name.now) ≡ injection = ap (meaning_of g) (sym c.deref.ensures) ∙ sym c.meaning_of.ensures ∙ ap meaning_view c.in-Injection.is in
    let other : length c.args.arguments.now ≡ 1 → ⊥ = λ e. elim c.in_default.branch [ applied_side-in_default-via-then-arguments-lt1 w ↦ search rules | applied_side-in_default-via-else-arguments-lt1+else-arguments-lt2 w ↦ search rules ] in
    absurd (other (inj_takes_one g (string_bytes c.args.name.now) ss c.args.arguments.now means verified.term))

pub applied_side-returns-in-Interpreted-clause-refused : goal.applied_side-returns-in-Interpreted-clause-refused
applied_side-returns-in-Interpreted-clause-refused t c = λ ss verified.
    let g = signature_view c.args.signature.now in
    let means : meaning_of g (string_bytes c.args.name.now) ≡ interpretation (function_view c.in-Interpreted.field-0) = ap (meaning_of g) (sym c.deref.ensures) ∙ sym c.meaning_of.ensures ∙ ap meaning_view c.in-Interpreted.is in
    absurd (not_interpreted g (string_bytes c.args.name.now) ss (patterns_view c.args.arguments.now) (function_view c.in-Interpreted.field-0) means verified)

pub left_side_of-returns-in-Application-clause-refused : goal.left_side_of-returns-in-Application-clause-refused
left_side_of-returns-in-Application-clause-refused t c =
    let g = signature_view c.args.signature.now in
    let is : view c.args.pattern.now ≡ application (string_bytes c.in-Application.symbol) (sorts_view c.in-Application.sorts.items) (patterns_view c.in-Application.arguments.items) = search (rules, the_lemmas) in
    IfErr-weaker c.applied_side.result _ _
    (λ e told verified. told (sorts_view c.in-Application.sorts.items)
    (subst (IsVerifiedLeftTerm g) (is ∙ ap (λ ps. application (string_bytes c.in-Application.symbol) (sorts_view c.in-Application.sorts.items) (patterns_view ps)) (sym c.deref.ensures.value)) verified))
    c.applied_side.ensures.refused

pub left_sides_of-loop-pattern-preserved : goal.left_sides_of-loop-pattern-preserved
left_sides_of-loop-pattern-preserved t c =
    let n = c.loop-pattern.pattern-index in
    let g = signature_view c.args.signature.now in
    subst (λ xs. AreLeftForms g (take (n + 1) c.args.patterns.now) xs) (sym c.in_ok-push.ensures.items)
    (zip_push (λ p k. skeleton_view k ≡ left_form g (view p)) n c.args.patterns.now c.loop-pattern.found.items c.pattern-item.result c.in_ok-left_side_of.field-0 c.loop-pattern-test.true c.pattern-item.is c.loop-pattern.invariant c.in_ok-left_side_of.ensures.form)
