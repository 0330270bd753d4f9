use Rattle.std.proofs.Common.{rules, ◌≡◌, ◌∙◌, sym, ap, subst, length, string_bytes, true, arith}
use Rattle.std.specs.Prelude.{Some, None}
use Rattle.std.specs.Option.{option_map}
use Rattle.std.proofs.lemmas.List.{take_all}
use Rattle.std.proofs.lemmas.Result.{on_ok_weaker, IfErr-weaker, err_from_is_err_and}
use Rattle.kp_kore.specs.Syntax.{application}
use Rattle.kp_kore.specs.Parts.{free_variables, all_free_variables}
use Rattle.kp_kore.specs.Signature.{meaning_of, symbol_declared, injection, construction, interpretation, foreign}
use Rattle.kp_kore.specs.View.{view, patterns_view, sorts_view, symbol_sentence_view}
use Rattle.kp_kore.specs.declared.pattern.Pattern.{the_lemmas}
use Rattle.kp_signature.specs.View.{signature_view}
use Rattle.kp_signature.specs.Meanings.{function_view, meaning_view}
use Rattle.kp_compile.specs.Exact.{are_named}
use Rattle.kp_compile.specs.Names.{names_seen}
use Rattle.kp_compile.specs.Verified.{IsVerifiedLeftTerm}
use Rattle.kp_compile.proofs.Reading.{one_named, named_at}
use Rattle.kp_compile.proofs.Taken.{inj_takes_one, as_many_places, is_declared, not_interpreted, not_foreign}
use Rattle.kp_compile.proofs.VerifiedParts.{left_arguments, at_index}
use Rattle.kp_rule_reading.specs.Tests.{Adds}
use Rattle.kp_rule_reading.proofs.TestLemmas.{argument_added, under_application, under_injection, under_constructor}
use Rattle.kp_rule_reading.proofs.sort_test.+sort_tests.Goals as goal

pub add_tests-returns-in-Application-clause-tests : goal.add_tests-returns-in-Application-clause-tests
add_tests-returns-in-Application-clause-tests t c =
    let is : view c.args.pattern.now ≡ application (string_bytes c.in-Application.symbol) (sorts_view c.in-Application.sorts.items) (patterns_view c.in-Application.arguments.items) = search (rules, the_lemmas) in
    on_ok_weaker c.add_tests_of_applied.result
    (λ added v given. under_application (signature_view c.args.signature.now) v c.args.given (view c.args.pattern.now) (string_bytes c.in-Application.symbol) (sorts_view c.in-Application.sorts.items)
    c.in-Application.arguments.items c.deref.result.now c.args.tests.now.items c.add_tests_of_applied.new.tests.items is c.deref.ensures.value (added v) given)
    c.add_tests_of_applied.ensures.tests

pub add_tests_of_applied-returns-in-len1-clause-tests : goal.add_tests_of_applied-returns-in-len1-clause-tests
add_tests_of_applied-returns-in-len1-clause-tests t c =
    let g = signature_view c.args.signature.now in
    let means : meaning_of g (string_bytes c.args.symbol.now) ≡ injection = ap (meaning_of g) (sym c.deref.ensures) ∙ sym c.meaning_of.ensures ∙ ap meaning_view c.in-Injection.is in
    on_ok_weaker c.add_tests.result
    (λ added v sorted. under_injection g v (string_bytes c.args.symbol.now) c.args.arguments.now c.argument-item.result c.args.tests.now.items c.add_tests.new.tests.items (omega arith) c.argument-item.is means (added v) sorted)
    c.add_tests.ensures.tests

pub add_tests_of_applied-returns-in-Some-clause-tests : goal.add_tests_of_applied-returns-in-Some-clause-tests
add_tests_of_applied-returns-in-Some-clause-tests t c =
    let g = signature_view c.args.signature.now in
    let means : meaning_of g (string_bytes c.args.symbol.now) ≡ construction = ap (meaning_of g) (sym c.deref.ensures) ∙ sym c.meaning_of.ensures ∙ ap meaning_view c.in-Constructor.is in
    let declared : symbol_declared g (string_bytes c.args.symbol.now) ≡ Some (symbol_sentence_view c.in-Some.found.now) =
    ap (symbol_declared g) (sym c.deref-in-Constructor.ensures) ∙ sym c.symbol.ensures ∙ ap (option_map (λ d. symbol_sentence_view d.now)) c.in-Some.is in
    on_ok_weaker c.add_tests_of_arguments.result
    (λ added v sorted. under_constructor g v (string_bytes c.args.symbol.now) c.args.arguments.now (symbol_sentence_view c.in-Some.found.now) c.args.tests.now.items c.add_tests_of_arguments.new.tests.items means declared
    (λ have. added v (rw c.deref-in-Some.ensures.value have)) sorted)
    c.add_tests_of_arguments.ensures.tests

pub add_tests_of_arguments-loop-i-preserved : goal.add_tests_of_arguments-loop-i-preserved
add_tests_of_arguments-loop-i-preserved t c = record {
  tests = λ v have.
      argument_added (signature_view c.args.signature.now) v c.args.places.now c.args.patterns.now c.loop-i.i c.index-places-i.result c.index-patterns-i.result
      c.args.tests.now.items c.loop-i.tests.items c.add_tests.new.tests.items (omega arith) (omega arith) c.index-places-i.is c.index-patterns-i.is have
      (c.loop-i.invariant.tests v have) (λ given. c.in_ok-add_tests.ensures.tests v given);
  reads = λ named old.
      c.in_ok-add_tests.ensures.reads (named_at (names_seen c.args.names.now) c.args.patterns.now c.loop-i.i c.index-patterns-i.result (omega arith) c.index-patterns-i.is named) (c.loop-i.invariant.reads named old);
}

pub add_tests_of_arguments-returns-clause-tests : goal.add_tests_of_arguments-returns-clause-tests
add_tests_of_arguments-returns-clause-tests t c = λ v have.
    subst (λ ps. Adds (signature_view c.args.signature.now) v c.args.tests.now.items c.loop-i.tests.items (all_free_variables (patterns_view ps))) (take_all c.loop-i.i c.args.patterns.now (omega arith))
    (c.loop-i.invariant.tests v have)

pub add_tests-returns-in-Application-clause-refused : goal.add_tests-returns-in-Application-clause-refused
add_tests-returns-in-Application-clause-refused t c =
    let g = signature_view c.args.signature.now in
    let is : view c.args.pattern.now ≡ application (string_bytes c.in-Application.symbol) (sorts_view c.in-Application.sorts.items) (patterns_view c.in-Application.arguments.items) = search (rules, the_lemmas) in
    IfErr-weaker c.add_tests_of_applied.result _ _
    (λ e told verified. told (sorts_view c.in-Application.sorts.items)
    (subst (IsVerifiedLeftTerm g) (is ∙ ap (λ ps. application (string_bytes c.in-Application.symbol) (sorts_view c.in-Application.sorts.items) (patterns_view ps)) (sym c.deref.ensures.value)) verified))
    c.add_tests_of_applied.ensures.refused

pub add_tests_of_applied-returns-in-len1-clause-refused : goal.add_tests_of_applied-returns-in-len1-clause-refused
add_tests_of_applied-returns-in-len1-clause-refused t c =
    let g = signature_view c.args.signature.now in
    IfErr-weaker c.add_tests.result _ _
    (λ e told ss verified. told
    (at_index (λ q. IsVerifiedLeftTerm g (view q)) c.args.arguments.now 0 c.argument-item.result (omega arith) c.argument-item.is (left_arguments g (string_bytes c.args.symbol.now) ss c.args.arguments.now verified)))
    c.add_tests.ensures.refused

pub add_tests_of_applied-returns-in_default-clause-refused : goal.add_tests_of_applied-returns-in_default-clause-refused
add_tests_of_applied-returns-in_default-clause-refused t c = λ ss verified.
    let g = signature_view c.args.signature.now in
    let means : meaning_of g (string_bytes c.args.symbol.now) ≡ injection = ap (meaning_of g) (sym c.deref.ensures) ∙ sym c.meaning_of.ensures ∙ ap meaning_view c.in-Injection.is in
    let other : length c.args.arguments.now ≡ 1 → ⊥ = λ e. search rules in
    absurd (other (inj_takes_one g (string_bytes c.args.symbol.now) ss c.args.arguments.now means verified.term))

pub add_tests_of_applied-returns-in_default-2-clause-refused : goal.add_tests_of_applied-returns-in_default-2-clause-refused
add_tests_of_applied-returns-in_default-2-clause-refused t c = λ ss verified.
    let g = signature_view c.args.signature.now in
    let means : meaning_of g (string_bytes c.args.symbol.now) ≡ injection = ap (meaning_of g) (sym c.deref.ensures) ∙ sym c.meaning_of.ensures ∙ ap meaning_view c.in-Injection.is in
    let other : length c.args.arguments.now ≡ 1 → ⊥ = λ e. search rules in
    absurd (other (inj_takes_one g (string_bytes c.args.symbol.now) ss c.args.arguments.now means verified.term))

pub add_tests_of_applied-returns-in-Some-clause-refused : goal.add_tests_of_applied-returns-in-Some-clause-refused
add_tests_of_applied-returns-in-Some-clause-refused t c =
    let g = signature_view c.args.signature.now in
    let declared : symbol_declared g (string_bytes c.args.symbol.now) ≡ Some (symbol_sentence_view c.in-Some.found.now) =
    ap (symbol_declared g) (sym c.deref-in-Constructor.ensures) ∙ sym c.symbol.ensures ∙ ap (option_map (λ d. symbol_sentence_view d.now)) c.in-Some.is in
    IfErr-weaker c.add_tests_of_arguments.result _ _
    (λ e told ss verified. told
    (as_many_places g (string_bytes c.args.symbol.now) ss c.args.arguments.now (symbol_sentence_view c.in-Some.found.now) c.deref-in-Some.result.now declared (ap sorts_view (sym c.deref-in-Some.ensures.value)) verified.term)
    (left_arguments g (string_bytes c.args.symbol.now) ss c.args.arguments.now verified))
    c.add_tests_of_arguments.ensures.refused

pub add_tests_of_applied-returns-in-None-clause-refused : goal.add_tests_of_applied-returns-in-None-clause-refused
add_tests_of_applied-returns-in-None-clause-refused t c = λ ss verified.
    let g = signature_view c.args.signature.now in
    let means : meaning_of g (string_bytes c.args.symbol.now) ≡ construction = ap (meaning_of g) (sym c.deref.ensures) ∙ sym c.meaning_of.ensures ∙ ap meaning_view c.in-Constructor.is in
    let none : symbol_declared g (string_bytes c.args.symbol.now) ≡ None =
    ap (symbol_declared g) (sym c.deref-in-Constructor.ensures) ∙ sym c.symbol.ensures ∙ ap (option_map (λ d. symbol_sentence_view d.now)) c.in-None.is in
    absurd (is_declared g (string_bytes c.args.symbol.now) means none)

pub add_tests_of_applied-returns-in-Interpreted-clause-refused : goal.add_tests_of_applied-returns-in-Interpreted-clause-refused
add_tests_of_applied-returns-in-Interpreted-clause-refused t c = λ ss verified.
    let g = signature_view c.args.signature.now in
    let means : meaning_of g (string_bytes c.args.symbol.now) ≡ interpretation (function_view c.in-Interpreted.field-0) = ap (meaning_of g) (sym c.deref.ensures) ∙ sym c.meaning_of.ensures ∙ ap meaning_view c.in-Interpreted.is in
    absurd (not_interpreted g (string_bytes c.args.symbol.now) ss (patterns_view c.args.arguments.now) (function_view c.in-Interpreted.field-0) means verified)

pub add_tests_of_applied-returns-in-Foreign-clause-refused : goal.add_tests_of_applied-returns-in-Foreign-clause-refused
add_tests_of_applied-returns-in-Foreign-clause-refused t c = λ ss verified.
    let g = signature_view c.args.signature.now in
    let means : meaning_of g (string_bytes c.args.symbol.now) ≡ foreign = ap (meaning_of g) (sym c.deref.ensures) ∙ sym c.meaning_of.ensures ∙ ap meaning_view c.in-Foreign.is in
    absurd (not_foreign g (string_bytes c.args.symbol.now) ss (patterns_view c.args.arguments.now) means verified.term)

pub add_tests_of_arguments-returns-in_err-add_tests-clause-refused : goal.add_tests_of_arguments-returns-in_err-add_tests-clause-refused
add_tests_of_arguments-returns-in_err-add_tests-clause-refused t c =
    let g = signature_view c.args.signature.now in
    let p = err_from_is_err_and c.from_residual.result c.from_residual.ensures.1 in
    rw (p.1, p.2) (λ many verified. c.in_err-add_tests.ensures.refused
    (at_index (λ q. IsVerifiedLeftTerm g (view q)) c.args.patterns.now c.loop-i.i c.index-patterns-i.result (omega arith) c.index-patterns-i.is verified))

pub add_tests-returns-in-Application-clause-reads : goal.add_tests-returns-in-Application-clause-reads
add_tests-returns-in-Application-clause-reads t c =
    let is : view c.args.pattern.now ≡ application (string_bytes c.in-Application.symbol) (sorts_view c.in-Application.sorts.items) (patterns_view c.in-Application.arguments.items) = search (rules, the_lemmas) in
    on_ok_weaker c.add_tests_of_applied.result
    (λ more named. more (subst (λ p. are_named (names_seen c.args.names.now) (free_variables p) ≡ true)
    (is ∙ ap (λ ps. application (string_bytes c.in-Application.symbol) (sorts_view c.in-Application.sorts.items) (patterns_view ps)) (sym c.deref.ensures.value)) named))
    c.add_tests_of_applied.ensures.reads

pub add_tests_of_applied-returns-in-len1-clause-reads : goal.add_tests_of_applied-returns-in-len1-clause-reads
add_tests_of_applied-returns-in-len1-clause-reads t c =
    on_ok_weaker c.add_tests.result
    (λ more named. more (one_named (names_seen c.args.names.now) c.args.arguments.now c.argument-item.result (omega arith) c.argument-item.is named))
    c.add_tests.ensures.reads

pub add_tests_of_arguments-returns-clause-reads : goal.add_tests_of_arguments-returns-clause-reads
add_tests_of_arguments-returns-clause-reads t c = c.loop-i.invariant.reads
