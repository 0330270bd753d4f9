use Rattle.std.proofs.Common.{rules, ◌≡◌, refl, ◌∙◌, sym, ap, ap₂, subst, take, not, true, false, ◌+◌, ◌++◌, []}
use Rattle.std.proofs.lemmas.Result.{err_from_is_err_and, IfErr-weaker, IfOk-weaker}
use Rattle.kp_kore.specs.Parts.{is_term, subpatterns, free_variables}
use Rattle.kp_kore.specs.Syntax.{negation, conjunction, disjunction, implication, equivalence, equals, membership, ceil, floor}
use Rattle.kp_kore.specs.View.{view, sort_view, patterns_view}
use Rattle.kp_kore.specs.declared.pattern.Pattern.{the_lemmas}
use Rattle.kp_kore.specs.Numbers.{is_wide_call, computes_wide}
use Rattle.kp_signature.specs.View.{signature_view}
use Rattle.kp_compile.specs.Exact.{IsConditionOf, AreConditionsOf, IsConditionNarrowAs, AreConditionsNarrowAs, ConditionReadsAs, ConditionsReadAs, are_named}
use Rattle.kp_compile.specs.Names.{names_seen}
use Rattle.kp_compile.specs.Verified.{IsVerifiedPredicate}
use Rattle.kp_compile.proofs.Compiled.{zip_push, each_true, some_true, decides_iff, ceil_ok, floor_ok, defined_holds}
use Rattle.kp_compile.proofs.Narrow.{none_of_both, each_condition_narrow, of_two, of_itself}
use Rattle.kp_compile.proofs.Reading.{both_so, first_named, second_named, each_condition_reads}
use Rattle.kp_compile.proofs.VerifiedParts.{ArePredicates, denied, implying, implied, first_equivalent, second_equivalent, first_equal, second_equal, first_in, second_in, conjoined, disjoined, defined_term, first_of_pair, second_of_pair, defined_predicate}
use Rattle.kp_compile.proofs.condition.+compile.Goals as goal

pub compile_each-loop-pattern-preserved : goal.compile_each-loop-pattern-preserved
compile_each-loop-pattern-preserved t c = (
  subst (λ xs. AreConditionsOf (signature_view c.args.signature.now) (take (c.loop-pattern.pattern-index + 1) c.args.patterns.now) xs) (sym c.in_ok-push.ensures.items)
      (zip_push (λ p x. IsConditionOf (signature_view c.args.signature.now) (view p) x) c.loop-pattern.pattern-index c.args.patterns.now c.loop-pattern.conditions.items c.pattern-item.result c.in_ok-condition_of.field-0
      c.loop-pattern-test.true c.pattern-item.is c.loop-pattern.invariant.0 c.in_ok-condition_of.ensures.holds),
  subst (λ xs. AreConditionsNarrowAs (signature_view c.args.signature.now) (take (c.loop-pattern.pattern-index + 1) c.args.patterns.now) xs) (sym c.in_ok-push.ensures.items)
      (zip_push (λ p x. IsConditionNarrowAs (signature_view c.args.signature.now) (view p) x) c.loop-pattern.pattern-index c.args.patterns.now c.loop-pattern.conditions.items c.pattern-item.result c.in_ok-condition_of.field-0
      c.loop-pattern-test.true c.pattern-item.is c.loop-pattern.invariant.1 c.in_ok-condition_of.ensures.narrow),
  subst (λ xs. ConditionsReadAs (names_seen c.args.names.now) (take (c.loop-pattern.pattern-index + 1) c.args.patterns.now) xs) (sym c.in_ok-push.ensures.items)
      (zip_push (λ p x. ConditionReadsAs (names_seen c.args.names.now) (view p) x) c.loop-pattern.pattern-index c.args.patterns.now c.loop-pattern.conditions.items c.pattern-item.result c.in_ok-condition_of.field-0
      c.loop-pattern-test.true c.pattern-item.is c.loop-pattern.invariant.2 c.in_ok-condition_of.ensures.reads),
)

pub condition_of-returns-in_ok-conditions-in-And-clause-holds : goal.condition_of-returns-in_ok-conditions-in-And-clause-holds
condition_of-returns-in_ok-conditions-in-And-clause-holds t c = λ v.
    let g = signature_view c.args.signature.now in
    let is : view c.args.pattern.now ≡ conjunction (sort_view c.in-And.sort) (patterns_view c.in-And.patterns.items) = search (rules, the_lemmas) in
    rw (c.make_all.ensures.seen, is) (each_true g v c.in-And.patterns.items c.in_ok-conditions-in-And.conditions.items
    (subst (λ ps. AreConditionsOf g ps c.in_ok-conditions-in-And.conditions.items) c.deref-in-And.ensures.value c.in_ok-conditions-in-And.ensures.holds))

pub condition_of-returns-in_ok-conditions-in-And-clause-narrow : goal.condition_of-returns-in_ok-conditions-in-And-clause-narrow
condition_of-returns-in_ok-conditions-in-And-clause-narrow t c = λ v.
    let g = signature_view c.args.signature.now in
    let is : view c.args.pattern.now ≡ conjunction (sort_view c.in-And.sort) (patterns_view c.in-And.patterns.items) = search (rules, the_lemmas) in
    rw (c.make_all.ensures.seen, is) (each_condition_narrow g v c.in-And.patterns.items c.in_ok-conditions-in-And.conditions.items
    (subst (λ ps. AreConditionsNarrowAs g ps c.in_ok-conditions-in-And.conditions.items) c.deref-in-And.ensures.value c.in_ok-conditions-in-And.ensures.narrow))

pub condition_of-returns-in_err-conditions-in-And-clause-refused : goal.condition_of-returns-in_err-conditions-in-And-clause-refused
condition_of-returns-in_err-conditions-in-And-clause-refused t c =
    let g = signature_view c.args.signature.now in
    let is : view c.args.pattern.now ≡ conjunction (sort_view c.in-And.sort) (patterns_view c.in-And.patterns.items) = search (rules, the_lemmas) in
    let p = err_from_is_err_and c.from_residual-in_err-conditions-in-And.result c.from_residual-in_err-conditions-in-And.ensures.1 in
    rw (p.1, p.2) (λ verified. c.in_err-conditions-in-And.ensures.refused
    (subst (ArePredicates g) (sym c.deref-in-And.ensures.value) (conjoined g (sort_view c.in-And.sort) c.in-And.patterns.items (subst (IsVerifiedPredicate g) is verified))))

pub condition_of-returns-in_ok-conditions-in-Or-clause-holds : goal.condition_of-returns-in_ok-conditions-in-Or-clause-holds
condition_of-returns-in_ok-conditions-in-Or-clause-holds t c = λ v.
    let g = signature_view c.args.signature.now in
    let is : view c.args.pattern.now ≡ disjunction (sort_view c.in-Or.sort) (patterns_view c.in-Or.patterns.items) = search (rules, the_lemmas) in
    rw (c.make_any.ensures.seen, is) (some_true g v c.in-Or.patterns.items c.in_ok-conditions-in-Or.conditions.items
    (subst (λ ps. AreConditionsOf g ps c.in_ok-conditions-in-Or.conditions.items) c.deref-in-Or.ensures.value c.in_ok-conditions-in-Or.ensures.holds))

pub condition_of-returns-in_ok-conditions-in-Or-clause-narrow : goal.condition_of-returns-in_ok-conditions-in-Or-clause-narrow
condition_of-returns-in_ok-conditions-in-Or-clause-narrow t c = λ v.
    let g = signature_view c.args.signature.now in
    let is : view c.args.pattern.now ≡ disjunction (sort_view c.in-Or.sort) (patterns_view c.in-Or.patterns.items) = search (rules, the_lemmas) in
    rw (c.make_any.ensures.seen, is) (each_condition_narrow g v c.in-Or.patterns.items c.in_ok-conditions-in-Or.conditions.items
    (subst (λ ps. AreConditionsNarrowAs g ps c.in_ok-conditions-in-Or.conditions.items) c.deref-in-Or.ensures.value c.in_ok-conditions-in-Or.ensures.narrow))

pub condition_of-returns-in_err-conditions-in-Or-clause-refused : goal.condition_of-returns-in_err-conditions-in-Or-clause-refused
condition_of-returns-in_err-conditions-in-Or-clause-refused t c =
    let g = signature_view c.args.signature.now in
    let is : view c.args.pattern.now ≡ disjunction (sort_view c.in-Or.sort) (patterns_view c.in-Or.patterns.items) = search (rules, the_lemmas) in
    let p = err_from_is_err_and c.from_residual-in_err-conditions-in-Or.result c.from_residual-in_err-conditions-in-Or.ensures.1 in
    rw (p.1, p.2) (λ verified. c.in_err-conditions-in-Or.ensures.refused
    (subst (ArePredicates g) (sym c.deref-in-Or.ensures.value) (disjoined g (sort_view c.in-Or.sort) c.in-Or.patterns.items (subst (IsVerifiedPredicate g) is verified))))

pub condition_of-returns-in_err-condition-in-Not-clause-refused : goal.condition_of-returns-in_err-condition-in-Not-clause-refused
condition_of-returns-in_err-condition-in-Not-clause-refused t c =
    let g = signature_view c.args.signature.now in
    let is : view c.args.pattern.now ≡ negation (sort_view c.in-Not.sort) (view c.in-Not.pattern.value) = search (rules, the_lemmas) in
    let p = err_from_is_err_and c.from_residual.result c.from_residual.ensures.1 in
    rw (p.1, p.2) (λ verified. c.in_err-condition-in-Not.ensures.refused
    (subst (λ q. IsVerifiedPredicate g (view q)) (sym c.deref.ensures) (denied g (sort_view c.in-Not.sort) (view c.in-Not.pattern.value) (subst (IsVerifiedPredicate g) is verified))))

pub condition_of-returns-in_err-left-in-Implies-clause-refused : goal.condition_of-returns-in_err-left-in-Implies-clause-refused
condition_of-returns-in_err-left-in-Implies-clause-refused t c =
    let g = signature_view c.args.signature.now in
    let is : view c.args.pattern.now ≡ implication (sort_view c.in-Implies.sort) (view c.in-Implies.left.value) (view c.in-Implies.right.value) = search (rules, the_lemmas) in
    let p = err_from_is_err_and c.from_residual-in_err-left-in-Implies.result c.from_residual-in_err-left-in-Implies.ensures.1 in
    rw (p.1, p.2) (λ verified. c.in_err-left-in-Implies.ensures.refused
    (subst (λ q. IsVerifiedPredicate g (view q)) (sym c.deref-in-Implies.ensures) (implying g (sort_view c.in-Implies.sort) (view c.in-Implies.left.value) (view c.in-Implies.right.value) (subst (IsVerifiedPredicate g) is verified))))

pub condition_of-returns-in_err-right-in-Implies-clause-refused : goal.condition_of-returns-in_err-right-in-Implies-clause-refused
condition_of-returns-in_err-right-in-Implies-clause-refused t c =
    let g = signature_view c.args.signature.now in
    let is : view c.args.pattern.now ≡ implication (sort_view c.in-Implies.sort) (view c.in-Implies.left.value) (view c.in-Implies.right.value) = search (rules, the_lemmas) in
    let p = err_from_is_err_and c.from_residual-in_err-right-in-Implies.result c.from_residual-in_err-right-in-Implies.ensures.1 in
    rw (p.1, p.2) (λ verified. c.in_err-right-in-Implies.ensures.refused
    (subst (λ q. IsVerifiedPredicate g (view q)) (sym c.deref-in-Implies-2.ensures) (implied g (sort_view c.in-Implies.sort) (view c.in-Implies.left.value) (view c.in-Implies.right.value) (subst (IsVerifiedPredicate g) is verified))))

pub condition_of-returns-in_ok-make_implied-in-Implies-clause-narrow : goal.condition_of-returns-in_ok-make_implied-in-Implies-clause-narrow
condition_of-returns-in_ok-make_implied-in-Implies-clause-narrow t c = λ v.
    let g = signature_view c.args.signature.now in
    let is : view c.args.pattern.now ≡ implication (sort_view c.in-Implies.sort) (view c.in-Implies.left.value) (view c.in-Implies.right.value) = search (rules, the_lemmas) in
    let left : IsConditionNarrowAs g (view c.in-Implies.left.value) c.in_ok-left-in-Implies.left
    = subst (λ p. IsConditionNarrowAs g (view p) c.in_ok-left-in-Implies.left) c.deref-in-Implies.ensures c.in_ok-left-in-Implies.ensures.narrow in
    let right : IsConditionNarrowAs g (view c.in-Implies.right.value) c.in_ok-right-in-Implies.right
    = subst (λ p. IsConditionNarrowAs g (view p) c.in_ok-right-in-Implies.right) c.deref-in-Implies-2.ensures c.in_ok-right-in-Implies.ensures.narrow in
    rw (c.in_ok-make_implied-in-Implies.ensures.seen, is) (none_of_both (is_wide_call g v) (subpatterns (view c.in-Implies.left.value)) (subpatterns (view c.in-Implies.right.value)) _ _ (left v) (right v))

pub condition_of-returns-in_err-left-in-Iff-clause-refused : goal.condition_of-returns-in_err-left-in-Iff-clause-refused
condition_of-returns-in_err-left-in-Iff-clause-refused t c =
    let g = signature_view c.args.signature.now in
    let is : view c.args.pattern.now ≡ equivalence (sort_view c.in-Iff.sort) (view c.in-Iff.left.value) (view c.in-Iff.right.value) = search (rules, the_lemmas) in
    let p = err_from_is_err_and c.from_residual-in_err-left-in-Iff.result c.from_residual-in_err-left-in-Iff.ensures.1 in
    rw (p.1, p.2) (λ verified. c.in_err-left-in-Iff.ensures.refused
    (subst (λ q. IsVerifiedPredicate g (view q)) (sym c.deref-in-Iff.ensures) (first_equivalent g (sort_view c.in-Iff.sort) (view c.in-Iff.left.value) (view c.in-Iff.right.value) (subst (IsVerifiedPredicate g) is verified))))

pub condition_of-returns-in_err-right-in-Iff-clause-refused : goal.condition_of-returns-in_err-right-in-Iff-clause-refused
condition_of-returns-in_err-right-in-Iff-clause-refused t c =
    let g = signature_view c.args.signature.now in
    let is : view c.args.pattern.now ≡ equivalence (sort_view c.in-Iff.sort) (view c.in-Iff.left.value) (view c.in-Iff.right.value) = search (rules, the_lemmas) in
    let p = err_from_is_err_and c.from_residual-in_err-right-in-Iff.result c.from_residual-in_err-right-in-Iff.ensures.1 in
    rw (p.1, p.2) (λ verified. c.in_err-right-in-Iff.ensures.refused
    (subst (λ q. IsVerifiedPredicate g (view q)) (sym c.deref-in-Iff-2.ensures) (second_equivalent g (sort_view c.in-Iff.sort) (view c.in-Iff.left.value) (view c.in-Iff.right.value) (subst (IsVerifiedPredicate g) is verified))))

pub condition_of-returns-in_ok-make_equivalent-in-Iff-clause-narrow : goal.condition_of-returns-in_ok-make_equivalent-in-Iff-clause-narrow
condition_of-returns-in_ok-make_equivalent-in-Iff-clause-narrow t c = λ v.
    let g = signature_view c.args.signature.now in
    let is : view c.args.pattern.now ≡ equivalence (sort_view c.in-Iff.sort) (view c.in-Iff.left.value) (view c.in-Iff.right.value) = search (rules, the_lemmas) in
    let left : IsConditionNarrowAs g (view c.in-Iff.left.value) c.in_ok-left-in-Iff.left
    = subst (λ p. IsConditionNarrowAs g (view p) c.in_ok-left-in-Iff.left) c.deref-in-Iff.ensures c.in_ok-left-in-Iff.ensures.narrow in
    let right : IsConditionNarrowAs g (view c.in-Iff.right.value) c.in_ok-right-in-Iff.right
    = subst (λ p. IsConditionNarrowAs g (view p) c.in_ok-right-in-Iff.right) c.deref-in-Iff-2.ensures c.in_ok-right-in-Iff.ensures.narrow in
    rw (c.in_ok-make_equivalent-in-Iff.ensures.seen, is) (none_of_both (is_wide_call g v) (subpatterns (view c.in-Iff.left.value)) (subpatterns (view c.in-Iff.right.value)) _ _ (left v) (right v))

pub condition_of-returns-in_ok-make_equivalent-in-Iff-clause-holds : goal.condition_of-returns-in_ok-make_equivalent-in-Iff-clause-holds
condition_of-returns-in_ok-make_equivalent-in-Iff-clause-holds t c = λ v.
    let g = signature_view c.args.signature.now in
    let is : view c.args.pattern.now ≡ equivalence (sort_view c.in-Iff.sort) (view c.in-Iff.left.value) (view c.in-Iff.right.value) = search (rules, the_lemmas) in
    let left : IsConditionOf g (view c.in-Iff.left.value) c.in_ok-left-in-Iff.left
    = subst (λ p. IsConditionOf g (view p) c.in_ok-left-in-Iff.left) c.deref-in-Iff.ensures c.in_ok-left-in-Iff.ensures.holds in
    let right : IsConditionOf g (view c.in-Iff.right.value) c.in_ok-right-in-Iff.right
    = subst (λ p. IsConditionOf g (view p) c.in_ok-right-in-Iff.right) c.deref-in-Iff-2.ensures c.in_ok-right-in-Iff.ensures.holds in
    rw (c.in_ok-make_equivalent-in-Iff.ensures.seen, is) (decides_iff _ _ _ _ (left v) (right v))

pub condition_of-returns-in-Equals-clause-narrow : goal.condition_of-returns-in-Equals-clause-narrow
condition_of-returns-in-Equals-clause-narrow t c =
    let g = signature_view c.args.signature.now in
    let is : view c.args.pattern.now ≡ equals (sort_view c.in-Equals.argument_sort) (sort_view c.in-Equals.sort) (view c.in-Equals.left.value) (view c.in-Equals.right.value) = search (rules, the_lemmas) in
    let seen : view c.args.pattern.now ≡ equals (sort_view c.in-Equals.argument_sort) (sort_view c.in-Equals.sort) (view c.deref-in-Equals.result.now) (view c.deref-in-Equals-2.result.now)
    = is ∙ ap₂ (λ x y. equals (sort_view c.in-Equals.argument_sort) (sort_view c.in-Equals.sort) (view x) (view y)) (sym c.deref-in-Equals.ensures) (sym c.deref-in-Equals-2.ensures) in
    IfOk-weaker c.make_same.result _ _ (λ x told v. of_two g v (view c.deref-in-Equals.result.now) (view c.deref-in-Equals-2.result.now) _ (told v) ∙ sym (ap (λ p. not (computes_wide g v p)) seen)) c.make_same.ensures.narrow

pub condition_of-returns-in-Equals-clause-refused : goal.condition_of-returns-in-Equals-clause-refused
condition_of-returns-in-Equals-clause-refused t c =
    let g = signature_view c.args.signature.now in
    let is : view c.args.pattern.now ≡ equals (sort_view c.in-Equals.argument_sort) (sort_view c.in-Equals.sort) (view c.in-Equals.left.value) (view c.in-Equals.right.value) = search (rules, the_lemmas) in
    let seen : view c.args.pattern.now ≡ equals (sort_view c.in-Equals.argument_sort) (sort_view c.in-Equals.sort) (view c.deref-in-Equals.result.now) (view c.deref-in-Equals-2.result.now)
    = is ∙ ap₂ (λ x y. equals (sort_view c.in-Equals.argument_sort) (sort_view c.in-Equals.sort) (view x) (view y)) (sym c.deref-in-Equals.ensures) (sym c.deref-in-Equals-2.ensures) in
    IfErr-weaker c.make_same.result _ _ (λ e told verified. told
    (first_equal g (sort_view c.in-Equals.argument_sort) (sort_view c.in-Equals.sort) (view c.deref-in-Equals.result.now) (view c.deref-in-Equals-2.result.now) (subst (IsVerifiedPredicate g) seen verified))
    (second_equal g (sort_view c.in-Equals.argument_sort) (sort_view c.in-Equals.sort) (view c.deref-in-Equals.result.now) (view c.deref-in-Equals-2.result.now) (subst (IsVerifiedPredicate g) seen verified))) c.make_same.ensures.refused

pub condition_of-returns-in-In-clause-narrow : goal.condition_of-returns-in-In-clause-narrow
condition_of-returns-in-In-clause-narrow t c =
    let g = signature_view c.args.signature.now in
    let is : view c.args.pattern.now ≡ membership (sort_view c.in-In.argument_sort) (sort_view c.in-In.sort) (view c.in-In.left.value) (view c.in-In.right.value) = search (rules, the_lemmas) in
    let seen : view c.args.pattern.now ≡ membership (sort_view c.in-In.argument_sort) (sort_view c.in-In.sort) (view c.deref-in-In.result.now) (view c.deref-in-In-2.result.now)
    = is ∙ ap₂ (λ x y. membership (sort_view c.in-In.argument_sort) (sort_view c.in-In.sort) (view x) (view y)) (sym c.deref-in-In.ensures) (sym c.deref-in-In-2.ensures) in
    IfOk-weaker c.make_same-in-In.result _ _ (λ x told v. of_two g v (view c.deref-in-In.result.now) (view c.deref-in-In-2.result.now) _ (told v) ∙ sym (ap (λ p. not (computes_wide g v p)) seen)) c.make_same-in-In.ensures.narrow

pub condition_of-returns-in-In-clause-refused : goal.condition_of-returns-in-In-clause-refused
condition_of-returns-in-In-clause-refused t c =
    let g = signature_view c.args.signature.now in
    let is : view c.args.pattern.now ≡ membership (sort_view c.in-In.argument_sort) (sort_view c.in-In.sort) (view c.in-In.left.value) (view c.in-In.right.value) = search (rules, the_lemmas) in
    let seen : view c.args.pattern.now ≡ membership (sort_view c.in-In.argument_sort) (sort_view c.in-In.sort) (view c.deref-in-In.result.now) (view c.deref-in-In-2.result.now)
    = is ∙ ap₂ (λ x y. membership (sort_view c.in-In.argument_sort) (sort_view c.in-In.sort) (view x) (view y)) (sym c.deref-in-In.ensures) (sym c.deref-in-In-2.ensures) in
    IfErr-weaker c.make_same-in-In.result _ _ (λ e told verified. told
    (first_in g (sort_view c.in-In.argument_sort) (sort_view c.in-In.sort) (view c.deref-in-In.result.now) (view c.deref-in-In-2.result.now) (subst (IsVerifiedPredicate g) seen verified))
    (second_in g (sort_view c.in-In.argument_sort) (sort_view c.in-In.sort) (view c.deref-in-In.result.now) (view c.deref-in-In-2.result.now) (subst (IsVerifiedPredicate g) seen verified))) c.make_same-in-In.ensures.refused

pub condition_of-returns-in-Ceil-clause-holds : goal.condition_of-returns-in-Ceil-clause-holds
condition_of-returns-in-Ceil-clause-holds t c =
    let g = signature_view c.args.signature.now in
    let is : view c.args.pattern.now ≡ ceil (sort_view c.in-Ceil.argument_sort) (sort_view c.in-Ceil.sort) (view c.in-Ceil.pattern.value) = search (rules, the_lemmas) in
    let seen : view c.args.pattern.now ≡ ceil (sort_view c.in-Ceil.argument_sort) (sort_view c.in-Ceil.sort) (view c.deref-in-Ceil.result.now)
    = is ∙ ap (λ p. ceil (sort_view c.in-Ceil.argument_sort) (sort_view c.in-Ceil.sort) (view p)) (sym c.deref-in-Ceil.ensures) in
    ceil_ok c.ceil_of.result g (view c.args.pattern.now) (view c.deref-in-Ceil.result.now) (sort_view c.in-Ceil.argument_sort) (sort_view c.in-Ceil.sort) seen c.ceil_of.ensures.holds

pub condition_of-returns-in-Ceil-clause-narrow : goal.condition_of-returns-in-Ceil-clause-narrow
condition_of-returns-in-Ceil-clause-narrow t c =
    let g = signature_view c.args.signature.now in
    let is : view c.args.pattern.now ≡ ceil (sort_view c.in-Ceil.argument_sort) (sort_view c.in-Ceil.sort) (view c.in-Ceil.pattern.value) = search (rules, the_lemmas) in
    let seen : view c.args.pattern.now ≡ ceil (sort_view c.in-Ceil.argument_sort) (sort_view c.in-Ceil.sort) (view c.deref-in-Ceil.result.now)
    = is ∙ ap (λ p. ceil (sort_view c.in-Ceil.argument_sort) (sort_view c.in-Ceil.sort) (view p)) (sym c.deref-in-Ceil.ensures) in
    IfOk-weaker c.ceil_of.result _ _ (λ x told v. told v ∙ sym (ap (λ p. not (computes_wide g v p)) seen)) c.ceil_of.ensures.narrow

pub condition_of-returns-in-Ceil-clause-refused : goal.condition_of-returns-in-Ceil-clause-refused
condition_of-returns-in-Ceil-clause-refused t c =
    let g = signature_view c.args.signature.now in
    let is : view c.args.pattern.now ≡ ceil (sort_view c.in-Ceil.argument_sort) (sort_view c.in-Ceil.sort) (view c.in-Ceil.pattern.value) = search (rules, the_lemmas) in
    let seen : view c.args.pattern.now ≡ ceil (sort_view c.in-Ceil.argument_sort) (sort_view c.in-Ceil.sort) (view c.deref-in-Ceil.result.now)
    = is ∙ ap (λ p. ceil (sort_view c.in-Ceil.argument_sort) (sort_view c.in-Ceil.sort) (view p)) (sym c.deref-in-Ceil.ensures) in
    IfErr-weaker c.ceil_of.result _ _ (λ e told verified. told (sort_view c.in-Ceil.argument_sort) (sort_view c.in-Ceil.sort) (subst (IsVerifiedPredicate g) seen verified)) c.ceil_of.ensures.refused

pub condition_of-returns-in-Floor-clause-holds : goal.condition_of-returns-in-Floor-clause-holds
condition_of-returns-in-Floor-clause-holds t c =
    let g = signature_view c.args.signature.now in
    let is : view c.args.pattern.now ≡ floor (sort_view c.in-Floor.argument_sort) (sort_view c.in-Floor.sort) (view c.in-Floor.pattern.value) = search (rules, the_lemmas) in
    let seen : view c.args.pattern.now ≡ floor (sort_view c.in-Floor.argument_sort) (sort_view c.in-Floor.sort) (view c.deref-in-Floor.result.now)
    = is ∙ ap (λ p. floor (sort_view c.in-Floor.argument_sort) (sort_view c.in-Floor.sort) (view p)) (sym c.deref-in-Floor.ensures) in
    floor_ok c.floor_of.result g (view c.args.pattern.now) (view c.deref-in-Floor.result.now) (sort_view c.in-Floor.argument_sort) (sort_view c.in-Floor.sort) seen c.floor_of.ensures.holds

pub condition_of-returns-in-Floor-clause-narrow : goal.condition_of-returns-in-Floor-clause-narrow
condition_of-returns-in-Floor-clause-narrow t c =
    let g = signature_view c.args.signature.now in
    let is : view c.args.pattern.now ≡ floor (sort_view c.in-Floor.argument_sort) (sort_view c.in-Floor.sort) (view c.in-Floor.pattern.value) = search (rules, the_lemmas) in
    let seen : view c.args.pattern.now ≡ floor (sort_view c.in-Floor.argument_sort) (sort_view c.in-Floor.sort) (view c.deref-in-Floor.result.now)
    = is ∙ ap (λ p. floor (sort_view c.in-Floor.argument_sort) (sort_view c.in-Floor.sort) (view p)) (sym c.deref-in-Floor.ensures) in
    IfOk-weaker c.floor_of.result _ _ (λ x told v. told v ∙ sym (ap (λ p. not (computes_wide g v p)) seen)) c.floor_of.ensures.narrow

pub condition_of-returns-in-Floor-clause-refused : goal.condition_of-returns-in-Floor-clause-refused
condition_of-returns-in-Floor-clause-refused t c =
    let g = signature_view c.args.signature.now in
    let is : view c.args.pattern.now ≡ floor (sort_view c.in-Floor.argument_sort) (sort_view c.in-Floor.sort) (view c.in-Floor.pattern.value) = search (rules, the_lemmas) in
    let seen : view c.args.pattern.now ≡ floor (sort_view c.in-Floor.argument_sort) (sort_view c.in-Floor.sort) (view c.deref-in-Floor.result.now)
    = is ∙ ap (λ p. floor (sort_view c.in-Floor.argument_sort) (sort_view c.in-Floor.sort) (view p)) (sym c.deref-in-Floor.ensures) in
    IfErr-weaker c.floor_of.result _ _ (λ e told verified. told (sort_view c.in-Floor.argument_sort) (sort_view c.in-Floor.sort) (subst (IsVerifiedPredicate g) seen verified)) c.floor_of.ensures.refused

pub ceil_of-returns-then-is_term-clause-holds : goal.ceil_of-returns-then-is_term-clause-holds
ceil_of-returns-then-is_term-clause-holds t c =
    let g = signature_view c.args.signature.now in
    let term : is_term (view c.args.pattern.now) ≡ true = sym c.is_term.ensures ∙ c.if-is_term.true in
    IfOk-weaker c.make_same.result _ _ (λ x told a s v. defined_holds g v a s (view c.args.pattern.now) _ term ((told v).1 refl)) c.make_same.ensures.holds

pub ceil_of-returns-then-is_term-clause-narrow : goal.ceil_of-returns-then-is_term-clause-narrow
ceil_of-returns-then-is_term-clause-narrow t c =
    let g = signature_view c.args.signature.now in
    IfOk-weaker c.make_same.result _ _ (λ x told v. of_itself _ (computes_wide g v (view c.args.pattern.now)) (told v)) c.make_same.ensures.narrow

pub ceil_of-returns-then-is_term-clause-refused : goal.ceil_of-returns-then-is_term-clause-refused
ceil_of-returns-then-is_term-clause-refused t c =
    let g = signature_view c.args.signature.now in
    let term : is_term (view c.args.pattern.now) ≡ true = sym c.is_term.ensures ∙ c.if-is_term.true in
    IfErr-weaker c.make_same.result _ _ (λ e told a s verified.
    let it = defined_term g a s (view c.args.pattern.now) term verified in told it it) c.make_same.ensures.refused

pub ceil_of-returns-in-Some-clause-refused : goal.ceil_of-returns-in-Some-clause-refused
ceil_of-returns-in-Some-clause-refused t c =
    let g = signature_view c.args.signature.now in
    IfErr-weaker c.make_same-in-Some.result _ _ (λ e told a s verified. told
    (first_of_pair g a s (view c.args.pattern.now) (view c.in-Some.left.now) (view c.in-Some.right.now) c.in-Some.ensures verified)
    (second_of_pair g a s (view c.args.pattern.now) (view c.in-Some.left.now) (view c.in-Some.right.now) c.in-Some.ensures verified)) c.make_same-in-Some.ensures.refused

pub ceil_of-returns-in-None-clause-refused : goal.ceil_of-returns-in-None-clause-refused
ceil_of-returns-in-None-clause-refused t c =
    let g = signature_view c.args.signature.now in
    let term : is_term (view c.args.pattern.now) ≡ false = sym c.is_term.ensures ∙ c.if-is_term.false in
    IfErr-weaker c.condition_of.result _ _ (λ e told a s verified. told (defined_predicate g a s (view c.args.pattern.now) term c.in-None.ensures verified)) c.condition_of.ensures.refused

pub condition_of-returns-in_ok-make_denial-in-Not-clause-reads : goal.condition_of-returns-in_ok-make_denial-in-Not-clause-reads
condition_of-returns-in_ok-make_denial-in-Not-clause-reads t c = λ named.
    let xs = names_seen c.args.names.now in
    let is : view c.args.pattern.now ≡ negation (sort_view c.in-Not.sort) (view c.in-Not.pattern.value) = search (rules, the_lemmas) in
    let seen : view c.args.pattern.now ≡ negation (sort_view c.in-Not.sort) (view c.deref.result.now) = is ∙ ap (λ p. negation (sort_view c.in-Not.sort) (view p)) (sym c.deref.ensures) in
    c.in_ok-make_denial-in-Not.ensures.reads xs ∙ c.in_ok-condition-in-Not.ensures.reads (subst (λ p. are_named xs (free_variables p) ≡ true) seen named)

pub condition_of-returns-in_ok-conditions-in-And-clause-reads : goal.condition_of-returns-in_ok-conditions-in-And-clause-reads
condition_of-returns-in_ok-conditions-in-And-clause-reads t c = λ named.
    let xs = names_seen c.args.names.now in
    let is : view c.args.pattern.now ≡ conjunction (sort_view c.in-And.sort) (patterns_view c.in-And.patterns.items) = search (rules, the_lemmas) in
    c.make_all.ensures.reads xs ∙ each_condition_reads xs c.in-And.patterns.items c.in_ok-conditions-in-And.conditions.items
    (subst (λ ps. ConditionsReadAs xs ps c.in_ok-conditions-in-And.conditions.items) c.deref-in-And.ensures.value c.in_ok-conditions-in-And.ensures.reads)
    (subst (λ p. are_named xs (free_variables p) ≡ true) is named)

pub condition_of-returns-in_ok-conditions-in-Or-clause-reads : goal.condition_of-returns-in_ok-conditions-in-Or-clause-reads
condition_of-returns-in_ok-conditions-in-Or-clause-reads t c = λ named.
    let xs = names_seen c.args.names.now in
    let is : view c.args.pattern.now ≡ disjunction (sort_view c.in-Or.sort) (patterns_view c.in-Or.patterns.items) = search (rules, the_lemmas) in
    c.make_any.ensures.reads xs ∙ each_condition_reads xs c.in-Or.patterns.items c.in_ok-conditions-in-Or.conditions.items
    (subst (λ ps. ConditionsReadAs xs ps c.in_ok-conditions-in-Or.conditions.items) c.deref-in-Or.ensures.value c.in_ok-conditions-in-Or.ensures.reads)
    (subst (λ p. are_named xs (free_variables p) ≡ true) is named)

pub condition_of-returns-in_ok-make_implied-in-Implies-clause-reads : goal.condition_of-returns-in_ok-make_implied-in-Implies-clause-reads
condition_of-returns-in_ok-make_implied-in-Implies-clause-reads t c = λ named.
    let xs = names_seen c.args.names.now in
    let is : view c.args.pattern.now ≡ implication (sort_view c.in-Implies.sort) (view c.in-Implies.left.value) (view c.in-Implies.right.value) = search (rules, the_lemmas) in
    let both = subst (λ p. are_named xs (free_variables p) ≡ true) is named in
    let left = subst (λ p. ConditionReadsAs xs (view p) c.in_ok-left-in-Implies.left) c.deref-in-Implies.ensures c.in_ok-left-in-Implies.ensures.reads in
    let right = subst (λ p. ConditionReadsAs xs (view p) c.in_ok-right-in-Implies.right) c.deref-in-Implies-2.ensures c.in_ok-right-in-Implies.ensures.reads in
    c.in_ok-make_implied-in-Implies.ensures.reads xs ∙ both_so _ _ (left (first_named xs (free_variables (view c.in-Implies.left.value)) (free_variables (view c.in-Implies.right.value)) both))
    (right (second_named xs (free_variables (view c.in-Implies.left.value)) (free_variables (view c.in-Implies.right.value)) both))

pub condition_of-returns-in_ok-make_equivalent-in-Iff-clause-reads : goal.condition_of-returns-in_ok-make_equivalent-in-Iff-clause-reads
condition_of-returns-in_ok-make_equivalent-in-Iff-clause-reads t c = λ named.
    let xs = names_seen c.args.names.now in
    let is : view c.args.pattern.now ≡ equivalence (sort_view c.in-Iff.sort) (view c.in-Iff.left.value) (view c.in-Iff.right.value) = search (rules, the_lemmas) in
    let both = subst (λ p. are_named xs (free_variables p) ≡ true) is named in
    let left = subst (λ p. ConditionReadsAs xs (view p) c.in_ok-left-in-Iff.left) c.deref-in-Iff.ensures c.in_ok-left-in-Iff.ensures.reads in
    let right = subst (λ p. ConditionReadsAs xs (view p) c.in_ok-right-in-Iff.right) c.deref-in-Iff-2.ensures c.in_ok-right-in-Iff.ensures.reads in
    c.in_ok-make_equivalent-in-Iff.ensures.reads xs ∙ both_so _ _ (left (first_named xs (free_variables (view c.in-Iff.left.value)) (free_variables (view c.in-Iff.right.value)) both))
    (right (second_named xs (free_variables (view c.in-Iff.left.value)) (free_variables (view c.in-Iff.right.value)) both))

pub condition_of-returns-in-Equals-clause-reads : goal.condition_of-returns-in-Equals-clause-reads
condition_of-returns-in-Equals-clause-reads t c =
    let xs = names_seen c.args.names.now in
    let is : view c.args.pattern.now ≡ equals (sort_view c.in-Equals.argument_sort) (sort_view c.in-Equals.sort) (view c.in-Equals.left.value) (view c.in-Equals.right.value) = search (rules, the_lemmas) in
    let seen : view c.args.pattern.now ≡ equals (sort_view c.in-Equals.argument_sort) (sort_view c.in-Equals.sort) (view c.deref-in-Equals.result.now) (view c.deref-in-Equals-2.result.now)
    = is ∙ ap₂ (λ x y. equals (sort_view c.in-Equals.argument_sort) (sort_view c.in-Equals.sort) (view x) (view y)) (sym c.deref-in-Equals.ensures) (sym c.deref-in-Equals-2.ensures) in
    IfOk-weaker c.make_same.result _ _ (λ x told named.
    let both = subst (λ p. are_named xs (free_variables p) ≡ true) seen named in
    told (first_named xs (free_variables (view c.deref-in-Equals.result.now)) (free_variables (view c.deref-in-Equals-2.result.now)) both)
    (second_named xs (free_variables (view c.deref-in-Equals.result.now)) (free_variables (view c.deref-in-Equals-2.result.now)) both)) c.make_same.ensures.reads

pub condition_of-returns-in-In-clause-reads : goal.condition_of-returns-in-In-clause-reads
condition_of-returns-in-In-clause-reads t c =
    let xs = names_seen c.args.names.now in
    let is : view c.args.pattern.now ≡ membership (sort_view c.in-In.argument_sort) (sort_view c.in-In.sort) (view c.in-In.left.value) (view c.in-In.right.value) = search (rules, the_lemmas) in
    let seen : view c.args.pattern.now ≡ membership (sort_view c.in-In.argument_sort) (sort_view c.in-In.sort) (view c.deref-in-In.result.now) (view c.deref-in-In-2.result.now)
    = is ∙ ap₂ (λ x y. membership (sort_view c.in-In.argument_sort) (sort_view c.in-In.sort) (view x) (view y)) (sym c.deref-in-In.ensures) (sym c.deref-in-In-2.ensures) in
    IfOk-weaker c.make_same-in-In.result _ _ (λ x told named.
    let both = subst (λ p. are_named xs (free_variables p) ≡ true) seen named in
    told (first_named xs (free_variables (view c.deref-in-In.result.now)) (free_variables (view c.deref-in-In-2.result.now)) both)
    (second_named xs (free_variables (view c.deref-in-In.result.now)) (free_variables (view c.deref-in-In-2.result.now)) both)) c.make_same-in-In.ensures.reads

pub condition_of-returns-in-Ceil-clause-reads : goal.condition_of-returns-in-Ceil-clause-reads
condition_of-returns-in-Ceil-clause-reads t c =
    let xs = names_seen c.args.names.now in
    let is : view c.args.pattern.now ≡ ceil (sort_view c.in-Ceil.argument_sort) (sort_view c.in-Ceil.sort) (view c.in-Ceil.pattern.value) = search (rules, the_lemmas) in
    let seen : view c.args.pattern.now ≡ ceil (sort_view c.in-Ceil.argument_sort) (sort_view c.in-Ceil.sort) (view c.deref-in-Ceil.result.now)
    = is ∙ ap (λ p. ceil (sort_view c.in-Ceil.argument_sort) (sort_view c.in-Ceil.sort) (view p)) (sym c.deref-in-Ceil.ensures) in
    IfOk-weaker c.ceil_of.result _ _ (λ x told named. told (subst (λ p. are_named xs (free_variables p) ≡ true) seen named)) c.ceil_of.ensures.reads

pub condition_of-returns-in-Floor-clause-reads : goal.condition_of-returns-in-Floor-clause-reads
condition_of-returns-in-Floor-clause-reads t c =
    let xs = names_seen c.args.names.now in
    let is : view c.args.pattern.now ≡ floor (sort_view c.in-Floor.argument_sort) (sort_view c.in-Floor.sort) (view c.in-Floor.pattern.value) = search (rules, the_lemmas) in
    let seen : view c.args.pattern.now ≡ floor (sort_view c.in-Floor.argument_sort) (sort_view c.in-Floor.sort) (view c.deref-in-Floor.result.now)
    = is ∙ ap (λ p. floor (sort_view c.in-Floor.argument_sort) (sort_view c.in-Floor.sort) (view p)) (sym c.deref-in-Floor.ensures) in
    IfOk-weaker c.floor_of.result _ _ (λ x told named. told (subst (λ p. are_named xs (free_variables p) ≡ true) seen named)) c.floor_of.ensures.reads

pub ceil_of-returns-then-is_term-clause-reads : goal.ceil_of-returns-then-is_term-clause-reads
ceil_of-returns-then-is_term-clause-reads t c = IfOk-weaker c.make_same.result _ _ (λ x told named. told named named) c.make_same.ensures.reads

pub ceil_of-returns-in-Some-clause-reads : goal.ceil_of-returns-in-Some-clause-reads
ceil_of-returns-in-Some-clause-reads t c =
    let xs = names_seen c.args.names.now in
    let first = free_variables (view c.in-Some.left.now) in
    let second = free_variables (view c.in-Some.right.now) in
    IfOk-weaker c.make_same-in-Some.result _ _ (λ x told named.
    let both : are_named xs (first ++ (second ++ [])) ≡ true = subst (λ p. are_named xs (free_variables p) ≡ true) c.in-Some.ensures.pattern named in
    told (first_named xs first (second ++ []) both) (first_named xs second [] (second_named xs first (second ++ []) both))) c.make_same-in-Some.ensures.reads
