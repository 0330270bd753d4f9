use Rattle.std.proofs.Common.{rules, ◌≡◌, ◌∙◌, sym, ap, ap₂, subst, take, length, ◌+◌, string_bytes, true, arith}
use Rattle.std.proofs.lemmas.Result.{err_from_is_err_and, IfErr-weaker, IfOk-weaker}
use Rattle.kp_kore.specs.Hooks.{truth_negation}
use Rattle.kp_kore.specs.Syntax.{application}
use Rattle.kp_kore.specs.Parts.{free_variables}
use Rattle.kp_kore.specs.View.{view, sorts_view, patterns_view}
use Rattle.kp_kore.specs.Signature.{meaning_of, construction, injection, interpretation}
use Rattle.kp_kore.specs.declared.pattern.Pattern.{the_lemmas}
use Rattle.kp_kore.specs.Value.{constructed}
use Rattle.kp_kore.specs.HookView.{hook_view}
use Rattle.kp_ground.specs.TermView.{term_view}
use Rattle.kp_signature.specs.View.{signature_view}
use Rattle.kp_compile.specs.Exact.{IsTermOf, AreTermsOf, IsNarrowAs, AreTermsNarrowAs, ReadsAs, ReadAllAs, are_named}
use Rattle.kp_compile.specs.Names.{names_seen}
use Rattle.kp_signature.specs.Meanings.{function_view, meaning_view}
use Rattle.kp_compile.specs.Verified.{IsVerifiedTerm}
use Rattle.kp_compile.proofs.Compiled.{zip_push, each_term}
use Rattle.kp_compile.proofs.Narrow.{built_narrow, call_narrow, opposite_narrow}
use Rattle.kp_compile.proofs.Taken.{call_takes_two, opposite_takes_one, inj_takes_one}
use Rattle.kp_compile.proofs.Reading.{both_so, each_reads, one_named, two_named}
use Rattle.kp_compile.proofs.VerifiedParts.{arguments, at_index}
use Rattle.kp_compile.proofs.term.+compile.Goals as goal
use Rattle.kp_compile.proofs.term.+compile.Goals.{compile_applied-in_default-via-then-arguments-lt1, compile_applied-in_default-via-else-arguments-lt1+else-arguments-lt2, compile_applied-in_default-arguments-via-then-arguments-lt2-2, compile_applied-in_default-arguments-via-else-arguments-lt2-2+else-arguments-lt3, compile_applied-in_default-arguments-2-via-then-arguments-lt1-2, compile_applied-in_default-arguments-2-via-else-arguments-lt1-2+else-arguments-lt2-3}

pub compile_applied-returns-in_ok-terms-in-Constructor-clause-meaning : goal.compile_applied-returns-in_ok-terms-in-Constructor-clause-meaning
compile_applied-returns-in_ok-terms-in-Constructor-clause-meaning t c = λ v.
    let means : meaning_of (signature_view c.args.signature.now) (string_bytes c.args.name.now) ≡ construction
    = ap (meaning_of (signature_view c.args.signature.now)) (sym c.deref.ensures) ∙ sym c.meaning_of.ensures ∙ ap meaning_view c.in-Constructor.is in
    rw (c.make_built.ensures.seen, means) (ap₂ constructed c.in_ok-shared-in-Constructor.ensures (each_term (signature_view c.args.signature.now) v c.args.arguments.now c.in_ok-terms-in-Constructor.terms.items c.in_ok-terms-in-Constructor.ensures.meaning))

pub compile_applied-returns-in_ok-terms-in-Constructor-clause-narrow : goal.compile_applied-returns-in_ok-terms-in-Constructor-clause-narrow
compile_applied-returns-in_ok-terms-in-Constructor-clause-narrow t c = λ ss v.
    let g = signature_view c.args.signature.now in
    let means : meaning_of g (string_bytes c.args.name.now) ≡ construction = ap (meaning_of g) (sym c.deref.ensures) ∙ sym c.meaning_of.ensures ∙ ap meaning_view c.in-Constructor.is in
    rw c.make_built.ensures.seen (built_narrow g v (string_bytes c.args.name.now) ss c.args.arguments.now c.in_ok-terms-in-Constructor.terms.items means c.in_ok-terms-in-Constructor.ensures.narrow)

pub compile_applied-returns-in_err-terms-in-Constructor-clause-refused : goal.compile_applied-returns-in_err-terms-in-Constructor-clause-refused
compile_applied-returns-in_err-terms-in-Constructor-clause-refused t c =
    let p = err_from_is_err_and c.from_residual-in_err-terms-in-Constructor.result c.from_residual-in_err-terms-in-Constructor.ensures.1 in
    rw (p.1, p.2) (λ ss verified. c.in_err-terms-in-Constructor.ensures.refused (arguments (signature_view c.args.signature.now) (string_bytes c.args.name.now) ss c.args.arguments.now verified))

pub compile_applied-returns-in_err-left-in-len2-clause-refused : goal.compile_applied-returns-in_err-left-in-len2-clause-refused
compile_applied-returns-in_err-left-in-len2-clause-refused t c =
    let g = (signature_view c.args.signature.now) in
    let p = err_from_is_err_and c.from_residual-in_err-left-in-len2.result c.from_residual-in_err-left-in-len2.ensures.1 in
    rw (p.1, p.2) (λ ss verified. c.in_err-left-in-len2.ensures.refused
    (at_index (λ q. IsVerifiedTerm g (view q)) c.args.arguments.now 0 c.left-item.result (omega arith) c.left-item.is (arguments g (string_bytes c.args.name.now) ss c.args.arguments.now verified)))

pub compile_applied-returns-in_err-right-in-len2-clause-refused : goal.compile_applied-returns-in_err-right-in-len2-clause-refused
compile_applied-returns-in_err-right-in-len2-clause-refused t c =
    let g = (signature_view c.args.signature.now) in
    let p = err_from_is_err_and c.from_residual-in_err-right-in-len2.result c.from_residual-in_err-right-in-len2.ensures.1 in
    rw (p.1, p.2) (λ ss verified. c.in_err-right-in-len2.ensures.refused
    (at_index (λ q. IsVerifiedTerm g (view q)) c.args.arguments.now 1 c.right-item.result (omega arith) c.right-item.is (arguments g (string_bytes c.args.name.now) ss c.args.arguments.now verified)))

pub compile_applied-returns-in_err-term-in-len1-arguments-clause-refused : goal.compile_applied-returns-in_err-term-in-len1-arguments-clause-refused
compile_applied-returns-in_err-term-in-len1-arguments-clause-refused t c =
    let g = (signature_view c.args.signature.now) in
    let p = err_from_is_err_and c.from_residual-in_err-term-in-len1-arguments.result c.from_residual-in_err-term-in-len1-arguments.ensures.1 in
    rw (p.1, p.2) (λ ss verified. c.in_err-term-in-len1-arguments.ensures.refused
    (at_index (λ q. IsVerifiedTerm g (view q)) c.args.arguments.now 0 c.argument-item-then-arguments-lt2-3.result (omega arith) c.argument-item-then-arguments-lt2-3.is
    (arguments g (string_bytes c.args.name.now) ss c.args.arguments.now verified)))

pub compile_applied-returns-in-len1-clause-refused : goal.compile_applied-returns-in-len1-clause-refused
compile_applied-returns-in-len1-clause-refused t c =
    let g = (signature_view c.args.signature.now) in
    IfErr-weaker c.term_of.result _ _
    (λ e told ss verified. told
    (at_index (λ q. IsVerifiedTerm g (view q)) c.args.arguments.now 0 c.argument-item.result (omega arith) c.argument-item.is (arguments g (string_bytes c.args.name.now) ss c.args.arguments.now verified)))
    c.term_of.ensures.refused

pub compile_applied-returns-in_default-clause-refused : goal.compile_applied-returns-in_default-clause-refused
compile_applied-returns-in_default-clause-refused t c = λ ss verified.
    let g = (signature_view c.args.signature.now) in
    let means : meaning_of g (string_bytes c.args.name.now) ≡ injection = ap (meaning_of g) (sym c.deref.ensures) ∙ sym c.meaning_of.ensures ∙ ap meaning_view c.in-Injection.is in
    let other : length c.args.arguments.now ≡ 1 → ⊥ = λ e. elim c.in_default.branch [ compile_applied-in_default-via-then-arguments-lt1 w ↦ search rules | compile_applied-in_default-via-else-arguments-lt1+else-arguments-lt2 w ↦ search rules ] in
    absurd (other (inj_takes_one g (string_bytes c.args.name.now) ss c.args.arguments.now means verified))

pub compile_applied-returns-in_ok-make_call-in-len2-clause-narrow : goal.compile_applied-returns-in_ok-make_call-in-len2-clause-narrow
compile_applied-returns-in_ok-make_call-in-len2-clause-narrow t c = λ ss v.
    let g = (signature_view c.args.signature.now) in
    let means : meaning_of g (string_bytes c.args.name.now) ≡ interpretation (hook_view c.in-Interpreted-Two.hook)
    = ap (meaning_of g) (sym c.deref.ensures) ∙ sym c.meaning_of.ensures ∙ ap meaning_view c.in-Interpreted-Two.is ∙ ap (λ f. interpretation (function_view f)) c.in-Interpreted-Two.field-0-is in
    rw c.in_ok-make_call-in-len2.ensures.seen (call_narrow g v (string_bytes c.args.name.now) ss c.args.arguments.now c.left-item.result c.right-item.result (hook_view c.in-Interpreted-Two.hook)
    (term_view c.in_ok-left-in-len2.left) (term_view c.in_ok-right-in-len2.right) (omega arith) c.left-item.is c.right-item.is means
    (c.in_ok-left-in-len2.ensures.meaning v) (c.in_ok-right-in-len2.ensures.meaning v) (c.in_ok-left-in-len2.ensures.narrow v) (c.in_ok-right-in-len2.ensures.narrow v))

pub compile_applied-returns-in_default-arguments-clause-refused : goal.compile_applied-returns-in_default-arguments-clause-refused
compile_applied-returns-in_default-arguments-clause-refused t c = λ ss verified.
    let g = (signature_view c.args.signature.now) in
    let means : meaning_of g (string_bytes c.args.name.now) ≡ interpretation (hook_view c.in-Interpreted-Two.hook)
    = ap (meaning_of g) (sym c.deref.ensures) ∙ sym c.meaning_of.ensures ∙ ap meaning_view c.in-Interpreted-Two.is ∙ ap (λ f. interpretation (function_view f)) c.in-Interpreted-Two.field-0-is in
    let other : length c.args.arguments.now ≡ 2 → ⊥ = λ e. elim c.in_default-arguments.branch [ compile_applied-in_default-arguments-via-then-arguments-lt2-2 w ↦ search rules | compile_applied-in_default-arguments-via-else-arguments-lt2-2+else-arguments-lt3 w ↦ search rules ] in
    absurd (other (call_takes_two g (string_bytes c.args.name.now) ss c.args.arguments.now c.in-Interpreted-Two.hook means verified))

pub compile_applied-returns-in_ok-make_opposite-in-len1-arguments-clause-narrow : goal.compile_applied-returns-in_ok-make_opposite-in-len1-arguments-clause-narrow
compile_applied-returns-in_ok-make_opposite-in-len1-arguments-clause-narrow t c = λ ss v.
    let g = (signature_view c.args.signature.now) in
    let means : meaning_of g (string_bytes c.args.name.now) ≡ interpretation truth_negation
    = ap (meaning_of g) (sym c.deref.ensures) ∙ sym c.meaning_of.ensures ∙ ap meaning_view c.in-Interpreted-Negation.is ∙ ap (λ f. interpretation (function_view f)) c.in-Interpreted-Negation.field-0-is in
    rw c.in_ok-make_opposite-in-len1-arguments.ensures.seen (opposite_narrow g v (string_bytes c.args.name.now) ss c.args.arguments.now c.argument-item-then-arguments-lt2-3.result
    (term_view c.in_ok-term-in-len1-arguments.term) (omega arith) c.argument-item-then-arguments-lt2-3.is means (c.in_ok-term-in-len1-arguments.ensures.narrow v))

pub compile_applied-returns-in_default-arguments-2-clause-refused : goal.compile_applied-returns-in_default-arguments-2-clause-refused
compile_applied-returns-in_default-arguments-2-clause-refused t c = λ ss verified.
    let g = (signature_view c.args.signature.now) in
    let means : meaning_of g (string_bytes c.args.name.now) ≡ interpretation truth_negation
    = ap (meaning_of g) (sym c.deref.ensures) ∙ sym c.meaning_of.ensures ∙ ap meaning_view c.in-Interpreted-Negation.is ∙ ap (λ f. interpretation (function_view f)) c.in-Interpreted-Negation.field-0-is in
    let other : length c.args.arguments.now ≡ 1 → ⊥ = λ e. elim c.in_default-arguments-2.branch [ compile_applied-in_default-arguments-2-via-then-arguments-lt1-2 w ↦ search rules | compile_applied-in_default-arguments-2-via-else-arguments-lt1-2+else-arguments-lt2-3 w ↦ search rules ] in
    absurd (other (opposite_takes_one g (string_bytes c.args.name.now) ss c.args.arguments.now means verified))

pub term_of-returns-in-Application-clause-narrow : goal.term_of-returns-in-Application-clause-narrow
term_of-returns-in-Application-clause-narrow t c =
    let g = (signature_view c.args.signature.now) in
    let is : view c.args.pattern.now ≡ application (string_bytes c.in-Application.symbol) (sorts_view c.in-Application.sorts.items) (patterns_view c.in-Application.arguments.items) = search (rules, the_lemmas) in
    IfOk-weaker c.compile_applied.result _ _
    (λ x told. subst (λ p. IsNarrowAs g p x) (sym (is ∙ ap (λ ps. application (string_bytes c.in-Application.symbol) (sorts_view c.in-Application.sorts.items) (patterns_view ps)) (sym c.deref.ensures.value))) (told (sorts_view c.in-Application.sorts.items)))
    c.compile_applied.ensures.narrow

pub term_of-returns-in-Application-clause-refused : goal.term_of-returns-in-Application-clause-refused
term_of-returns-in-Application-clause-refused t c =
    let g = (signature_view c.args.signature.now) in
    let is : view c.args.pattern.now ≡ application (string_bytes c.in-Application.symbol) (sorts_view c.in-Application.sorts.items) (patterns_view c.in-Application.arguments.items) = search (rules, the_lemmas) in
    IfErr-weaker c.compile_applied.result _ _
    (λ e told verified. told (sorts_view c.in-Application.sorts.items)
    (subst (IsVerifiedTerm g) (is ∙ ap (λ ps. application (string_bytes c.in-Application.symbol) (sorts_view c.in-Application.sorts.items) (patterns_view ps)) (sym c.deref.ensures.value)) verified))
    c.compile_applied.ensures.refused

pub compile_each-loop-pattern-preserved : goal.compile_each-loop-pattern-preserved
compile_each-loop-pattern-preserved t c = (
  subst (λ xs. AreTermsOf (signature_view c.args.signature.now) (take (c.loop-pattern.pattern-index + 1) c.args.patterns.now) xs) (sym c.in_ok-push.ensures.items)
      (zip_push (λ p x. IsTermOf (signature_view c.args.signature.now) (view p) x) c.loop-pattern.pattern-index c.args.patterns.now c.loop-pattern.terms.items c.pattern-item.result c.in_ok-term_of.field-0
      c.loop-pattern-test.true c.pattern-item.is c.loop-pattern.invariant.0 c.in_ok-term_of.ensures.meaning),
  subst (λ xs. AreTermsNarrowAs (signature_view c.args.signature.now) (take (c.loop-pattern.pattern-index + 1) c.args.patterns.now) xs) (sym c.in_ok-push.ensures.items)
      (zip_push (λ p x. IsNarrowAs (signature_view c.args.signature.now) (view p) x) c.loop-pattern.pattern-index c.args.patterns.now c.loop-pattern.terms.items c.pattern-item.result c.in_ok-term_of.field-0
      c.loop-pattern-test.true c.pattern-item.is c.loop-pattern.invariant.1 c.in_ok-term_of.ensures.narrow),
  subst (λ xs. ReadAllAs (names_seen c.args.names.now) (take (c.loop-pattern.pattern-index + 1) c.args.patterns.now) xs) (sym c.in_ok-push.ensures.items)
      (zip_push (λ p x. ReadsAs (names_seen c.args.names.now) (view p) x) c.loop-pattern.pattern-index c.args.patterns.now c.loop-pattern.terms.items c.pattern-item.result c.in_ok-term_of.field-0
      c.loop-pattern-test.true c.pattern-item.is c.loop-pattern.invariant.2 c.in_ok-term_of.ensures.reads),
)

pub compile_applied-returns-in_ok-terms-in-Constructor-clause-reads : goal.compile_applied-returns-in_ok-terms-in-Constructor-clause-reads
compile_applied-returns-in_ok-terms-in-Constructor-clause-reads t c = λ named.
    let xs = names_seen c.args.names.now in
    c.make_built.ensures.reads xs ∙ each_reads xs c.args.arguments.now c.in_ok-terms-in-Constructor.terms.items c.in_ok-terms-in-Constructor.ensures.reads named

pub compile_applied-returns-in_ok-make_call-in-len2-clause-reads : goal.compile_applied-returns-in_ok-make_call-in-len2-clause-reads
compile_applied-returns-in_ok-make_call-in-len2-clause-reads t c = λ named.
    let xs = names_seen c.args.names.now in
    let each = two_named xs c.args.arguments.now c.left-item.result c.right-item.result (omega arith) c.left-item.is c.right-item.is named in
    c.in_ok-make_call-in-len2.ensures.reads xs ∙ both_so _ _ (c.in_ok-left-in-len2.ensures.reads each.0) (c.in_ok-right-in-len2.ensures.reads each.1)

pub compile_applied-returns-in_ok-make_opposite-in-len1-arguments-clause-reads : goal.compile_applied-returns-in_ok-make_opposite-in-len1-arguments-clause-reads
compile_applied-returns-in_ok-make_opposite-in-len1-arguments-clause-reads t c = λ named.
    let xs = names_seen c.args.names.now in
    c.in_ok-make_opposite-in-len1-arguments.ensures.reads xs ∙ c.in_ok-term-in-len1-arguments.ensures.reads
    (one_named xs c.args.arguments.now c.argument-item-then-arguments-lt2-3.result (omega arith) c.argument-item-then-arguments-lt2-3.is named)

pub compile_applied-returns-in-len1-clause-reads : goal.compile_applied-returns-in-len1-clause-reads
compile_applied-returns-in-len1-clause-reads t c =
    IfOk-weaker c.term_of.result _ _ (λ x told named. told (one_named (names_seen c.args.names.now) c.args.arguments.now c.argument-item.result (omega arith) c.argument-item.is named)) c.term_of.ensures.reads

pub term_of-returns-in-Application-clause-reads : goal.term_of-returns-in-Application-clause-reads
term_of-returns-in-Application-clause-reads t c =
    let is : view c.args.pattern.now ≡ application (string_bytes c.in-Application.symbol) (sorts_view c.in-Application.sorts.items) (patterns_view c.in-Application.arguments.items) = search (rules, the_lemmas) in
    IfOk-weaker c.compile_applied.result _ _
    (λ x told named. told (subst (λ p. are_named (names_seen c.args.names.now) (free_variables p) ≡ true)
    (is ∙ ap (λ ps. application (string_bytes c.in-Application.symbol) (sorts_view c.in-Application.sorts.items) (patterns_view ps)) (sym c.deref.ensures.value)) named))
    c.compile_applied.ensures.reads
