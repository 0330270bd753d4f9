use Rattle.std.proofs.Common.{rules, ◌≡◌, ◌∙◌, sym, ap, subst, refl, take, ◌+◌, ◌-◌, true, false, string_bytes, arith}
use Rattle.std.specs.List.{AllZip}
use Rattle.kp_kore.specs.Syntax.{variable, literal, application}
use Rattle.kp_kore.specs.View.{view, sort_view, sorts_view, patterns_view}
use Rattle.kp_kore.specs.Signature.{meaning_of, construction, injection, interpretation, foreign}
use Rattle.kp_kore.specs.declared.pattern.Pattern.{the_lemmas}
use Rattle.kp_signature.specs.View.{signature_view}
use Rattle.kp_kore.specs.Foreign.{InjectionsSplit}
use Rattle.kp_signature.specs.Meanings.{meaning_view, function_view}
use Rattle.kp_compile.proofs.Compiled.{zip_push, zip_whole}
use Rattle.kp_rules.specs.Skeletons.{skeleton_view, StandsFor, StandForAll, StandsForFirst}
use Rattle.kp_rules.proofs.SkeletonLemmas.{of_pattern, at_level, built_stands, injection_seen, injection_any, interpreted_any, foreign_any, zip_stands, first_stands, none_stands, is_other, other_stands, chosen_true, chosen_false}
use Rattle.kp_rules.proofs.skeleton.+skeleton.Goals as goal

pub skeleton_of-returns-in_ok-variable-in-Variable : goal.skeleton_of-returns-in_ok-variable-in-Variable
skeleton_of-returns-in_ok-variable-in-Variable t c =
    let g = signature_view c.args.signature.now in
    let n = c.args.levels - 1 in
    let is : view c.args.pattern.now ≡ variable (string_bytes c.in-Variable.name) (sort_view c.in-Variable.sort) = search (rules, the_lemmas) in
    of_pattern g n c.args.levels (view c.args.pattern.now) _ (skeleton_view c.in_ok-variable-in-Variable.field-0) (omega arith) is (c.in_ok-variable-in-Variable.ensures n)

pub skeleton_of-returns-in_ok-literal-in-Literal : goal.skeleton_of-returns-in_ok-literal-in-Literal
skeleton_of-returns-in_ok-literal-in-Literal t c =
    let g = signature_view c.args.signature.now in
    let n = c.args.levels - 1 in
    let is : view c.args.pattern.now ≡ literal (sort_view c.in-Literal.sort) (string_bytes c.in-Literal.text) = search (rules, the_lemmas) in
    of_pattern g n c.args.levels (view c.args.pattern.now) _ (skeleton_view c.in_ok-literal-in-Literal.field-0) (omega arith) is (c.in_ok-literal-in-Literal.ensures n)

pub skeleton_of-returns-in_ok-built-in-Constructor : goal.skeleton_of-returns-in_ok-built-in-Constructor
skeleton_of-returns-in_ok-built-in-Constructor t c =
    let g = signature_view c.args.signature.now in
    let n = c.args.levels - 1 in
    let f = string_bytes c.in-Application.symbol in
    let ss = sorts_view c.in-Application.sorts.items in
    let ps = c.in-Application.arguments.items in
    let ks = c.in_ok-skeletons-in-Constructor.skeletons.items in
    let k = skeleton_view c.in_ok-built-in-Constructor.field-0 in
    let is : view c.args.pattern.now ≡ application f ss (patterns_view ps) = search (rules, the_lemmas) in
    let means : meaning_of g f ≡ construction = ap (meaning_of g) (sym c.deref.ensures) ∙ sym c.meaning_of.ensures ∙ ap meaning_view c.in-Constructor.is in
    let all : StandForAll g n (patterns_view ps) ks = subst (λ qs. StandForAll g n (patterns_view qs) ks) c.deref-in-Constructor.ensures.value c.in_ok-skeletons-in-Constructor.ensures in
    of_pattern g n c.args.levels (view c.args.pattern.now) _ k (omega arith) is (at_level g n (application f ss (patterns_view ps)) k (built_stands g n f ss ps ks k means all c.in_ok-built-in-Constructor.ensures))

pub skeleton_of-returns-in_ok-skeleton_of_first-in-Injection : goal.skeleton_of-returns-in_ok-skeleton_of_first-in-Injection
skeleton_of-returns-in_ok-skeleton_of_first-in-Injection t c =
    let g = signature_view c.args.signature.now in
    let n = c.args.levels - 1 in
    let f = string_bytes c.in-Application.symbol in
    let ss = sorts_view c.in-Application.sorts.items in
    let ps = c.in-Application.arguments.items in
    let k = skeleton_view c.in_ok-skeleton_of_first-in-Injection.field-0 in
    let b = c.in_ok-is_split-in-Injection.field-0 in
    let is : view c.args.pattern.now ≡ application f ss (patterns_view ps) = search (rules, the_lemmas) in
    let means : meaning_of g f ≡ injection = ap (meaning_of g) (sym c.deref.ensures) ∙ sym c.meaning_of.ensures ∙ ap meaning_view c.in-Injection.is in
    let so : b ≡ true = search rules in
    let splits : InjectionsSplit g (view c.args.pattern.now) = chosen_true b _ _ so c.in_ok-is_split-in-Injection.ensures in
    let first : StandsForFirst g n (patterns_view ps) k = subst (λ qs. StandsForFirst g n (patterns_view qs) k) c.deref-then-branch.ensures.value c.in_ok-skeleton_of_first-in-Injection.ensures in
    of_pattern g n c.args.levels (view c.args.pattern.now) _ k (omega arith) is (at_level g n (application f ss (patterns_view ps)) k (injection_seen g n f ss ps k means (subst (InjectionsSplit g) is splits) first))

pub skeleton_of-returns-in_ok-any_result-in-Injection : goal.skeleton_of-returns-in_ok-any_result-in-Injection
skeleton_of-returns-in_ok-any_result-in-Injection t c =
    let g = signature_view c.args.signature.now in
    let n = c.args.levels - 1 in
    let f = string_bytes c.in-Application.symbol in
    let ss = sorts_view c.in-Application.sorts.items in
    let ps = c.in-Application.arguments.items in
    let k = skeleton_view c.in_ok-any_result-in-Injection.field-0 in
    let b = c.in_ok-is_split-in-Injection.field-0 in
    let is : view c.args.pattern.now ≡ application f ss (patterns_view ps) = search (rules, the_lemmas) in
    let means : meaning_of g f ≡ injection = ap (meaning_of g) (sym c.deref.ensures) ∙ sym c.meaning_of.ensures ∙ ap meaning_view c.in-Injection.is in
    let so : b ≡ false = search rules in
    let unsplit : ¬ InjectionsSplit g (view c.args.pattern.now) = chosen_false b _ _ so c.in_ok-is_split-in-Injection.ensures in
    of_pattern g n c.args.levels (view c.args.pattern.now) _ k (omega arith) is
    (at_level g n (application f ss (patterns_view ps)) k (injection_any g n f ss ps k means (subst (λ p. ¬ InjectionsSplit g p) is unsplit)
    (rw (c.deref-else-branch.ensures, c.deref-else-branch-2.ensures.value) at c.in_ok-any_result-in-Injection.ensures)))

pub skeleton_of-returns-in_ok-any_result-in-Interpreted : goal.skeleton_of-returns-in_ok-any_result-in-Interpreted
skeleton_of-returns-in_ok-any_result-in-Interpreted t c =
    let g = signature_view c.args.signature.now in
    let n = c.args.levels - 1 in
    let f = string_bytes c.in-Application.symbol in
    let ss = sorts_view c.in-Application.sorts.items in
    let ps = c.in-Application.arguments.items in
    let k = skeleton_view c.in_ok-any_result-in-Interpreted.field-0 in
    let is : view c.args.pattern.now ≡ application f ss (patterns_view ps) = search (rules, the_lemmas) in
    let means : meaning_of g f ≡ interpretation (function_view c.in-Interpreted.field-0) = ap (meaning_of g) (sym c.deref.ensures) ∙ sym c.meaning_of.ensures ∙ ap meaning_view c.in-Interpreted.is in
    of_pattern g n c.args.levels (view c.args.pattern.now) _ k (omega arith) is
    (at_level g n (application f ss (patterns_view ps)) k (interpreted_any g n f ss ps k (function_view c.in-Interpreted.field-0) means
    (rw (c.deref-in-Interpreted.ensures, c.deref-in-Interpreted-2.ensures.value) at c.in_ok-any_result-in-Interpreted.ensures)))

pub skeleton_of-returns-in_ok-any_result-in-Foreign : goal.skeleton_of-returns-in_ok-any_result-in-Foreign
skeleton_of-returns-in_ok-any_result-in-Foreign t c =
    let g = signature_view c.args.signature.now in
    let n = c.args.levels - 1 in
    let f = string_bytes c.in-Application.symbol in
    let ss = sorts_view c.in-Application.sorts.items in
    let ps = c.in-Application.arguments.items in
    let k = skeleton_view c.in_ok-any_result-in-Foreign.field-0 in
    let is : view c.args.pattern.now ≡ application f ss (patterns_view ps) = search (rules, the_lemmas) in
    let means : meaning_of g f ≡ foreign = ap (meaning_of g) (sym c.deref.ensures) ∙ sym c.meaning_of.ensures ∙ ap meaning_view c.in-Foreign.is in
    of_pattern g n c.args.levels (view c.args.pattern.now) _ k (omega arith) is
    (at_level g n (application f ss (patterns_view ps)) k (foreign_any g n f ss ps k means
    (rw (c.deref-in-Foreign.ensures, c.deref-in-Foreign-2.ensures.value) at c.in_ok-any_result-in-Foreign.ensures)))

pub skeleton_of-returns-in_ok-any_of_pattern-in_default : goal.skeleton_of-returns-in_ok-any_of_pattern-in_default
skeleton_of-returns-in_ok-any_of_pattern-in_default t c =
    let g = signature_view c.args.signature.now in
    let n = c.args.levels - 1 in
    let p = view c.args.pattern.now in
    let k = skeleton_view c.in_ok-any_of_pattern-in_default.field-0 in
    let other : is_other (view c.args.pattern.now) ≡ true = search (rules, the_lemmas) in
    of_pattern g n c.args.levels p p k (omega arith) refl (at_level g n p k (other_stands g n p k other c.in_ok-any_of_pattern-in_default.ensures))

pub skeletons_of-loop-pattern-preserved : goal.skeletons_of-loop-pattern-preserved
skeletons_of-loop-pattern-preserved t c =
    let g = signature_view c.args.signature.now in
    subst (λ xs. AllZip (λ p k. StandsFor g c.args.levels (view p) (skeleton_view k)) (take (c.loop-pattern.pattern-index + 1) c.args.patterns.now) xs) (sym c.in_ok-push.ensures.items)
    (zip_push (λ p k. StandsFor g c.args.levels (view p) (skeleton_view k)) c.loop-pattern.pattern-index c.args.patterns.now c.loop-pattern.found.items c.pattern-item.result c.in_ok-skeleton_of.field-0
    c.loop-pattern-test.true c.pattern-item.is c.loop-pattern.invariant c.in_ok-skeleton_of.ensures)

pub skeletons_of-returns : goal.skeletons_of-returns
skeletons_of-returns t c =
    let g = signature_view c.args.signature.now in
    zip_stands g c.args.levels c.args.patterns.now c.loop-pattern.found.items
    (zip_whole (λ p k. StandsFor g c.args.levels (view p) (skeleton_view k)) c.loop-pattern.pattern-index c.args.patterns.now c.loop-pattern.found.items (omega arith) c.loop-pattern.invariant)

pub skeleton_of_first-returns-in-loop-pattern : goal.skeleton_of_first-returns-in-loop-pattern
skeleton_of_first-returns-in-loop-pattern t c =
    first_stands (signature_view c.args.signature.now) c.args.levels c.loop-pattern.pattern-index c.args.patterns.now c.pattern-item.result (skeleton_view c.in_ok-skeleton_of.field-0)
    c.loop-pattern.invariant c.loop-pattern-test.true c.pattern-item.is c.in_ok-skeleton_of.ensures

pub skeleton_of_first-returns : goal.skeleton_of_first-returns
skeleton_of_first-returns t c =
    none_stands (signature_view c.args.signature.now) c.args.levels c.args.patterns.now (skeleton_view c.nothing.result) (omega arith) c.nothing.ensures

pub skeleton_of-skeletons_of-requires : goal.skeleton_of-skeletons_of-requires
skeleton_of-skeletons_of-requires t c = (search (rules, the_lemmas), c.requires.index)

pub skeleton_of-skeleton_of_first-requires : goal.skeleton_of-skeleton_of_first-requires
skeleton_of-skeleton_of_first-requires t c = (search (arith, the_lemmas, c.decreases, c.deref-then-branch.ensures.value, c.in-Application.is), c.requires.index)
