use Rattle.std.proofs.Common.{rules, ◌≡◌, ◌∙◌, sym, ap, ap₂, subst, true, false, [], ◌∷◌, map, IfOk}
use Rattle.std.specs.List.{AllByRecursion}
use Rattle.std.proofs.lemmas.Result.{err_from_is_err_and}
use Rattle.kp_kore.specs.Syntax.{negation, conjunction, disjunction, implication, equivalence, ceil, floor}
use Rattle.kp_kore.specs.View.{view, sort_view, patterns_view}
use Rattle.kp_kore.specs.declared.pattern.Pattern.{the_lemmas}
use Rattle.kp_symbolic.specs.Opening.{all_opened, opened_leaf}
use Rattle.kp_symbolic.specs.Faultless.{IsFaultless}
use Rattle.kp_symbolic.specs.Languages.{language_view}
use Rattle.kp_symbolic.specs.View.{replaced_view}
use Rattle.kp_symbolic.proofs.FaultlessParts.{of_negation, of_ceil, of_floor, first_implied, second_implied, first_equivalent, second_equivalent, of_conjunction, of_disjunction}
use Rattle.kp_formulas.specs.Distribution.{distribution_of, distributions_of, all_distributed, one_distributed, agreement_of}
use Rattle.kp_formulas.specs.DistributionView.{distributed_view}
use Rattle.kp_formulas.proofs.FaultlessLemmas.{handed}
use Rattle.kp_clauses.specs.OpenedPredicates.{opened_by}
use Rattle.kp_clauses.proofs.OpenedLemmas.{conjunction_holds, conjunction_fails, disjunction_holds, disjunction_fails, implication_holds, implication_fails, agreement_holds, agreement_fails, faultless_at}
use Rattle.kp_clauses.proofs.opened.+open.Goals as goal

pub open_conjunction-returns-clause-yes : goal.open_conjunction-returns-clause-yes
open_conjunction-returns-clause-yes t c s =
    let g = language_view c.args.language.now in
    let rs = map replaced_view c.args.replaced.now in
    let ps = patterns_view c.args.patterns.now in
    let parts : map distributed_view c.deref.result.now ≡ distributions_of (all_opened (opened_leaf g rs) c.args.alone true ps) = search rules in
    c.in_ok-all_of.ensures ∙ ap all_distributed parts ∙ conjunction_holds g rs c.args.alone s ps

pub open_conjunction-returns-clause-no : goal.open_conjunction-returns-clause-no
open_conjunction-returns-clause-no t c s a =
    let g = language_view c.args.language.now in
    let rs = map replaced_view c.args.replaced.now in
    let ps = patterns_view c.args.patterns.now in
    let parts : map distributed_view c.deref-2.result.now ≡ distributions_of (all_opened (opened_leaf g rs) false false ps) = search rules in
    c.in_ok-one_of.ensures ∙ ap one_distributed parts ∙ conjunction_fails g rs a s ps

pub open_disjunction-returns-clause-yes : goal.open_disjunction-returns-clause-yes
open_disjunction-returns-clause-yes t c s a =
    let g = language_view c.args.language.now in
    let rs = map replaced_view c.args.replaced.now in
    let ps = patterns_view c.args.patterns.now in
    let parts : map distributed_view c.deref.result.now ≡ distributions_of (all_opened (opened_leaf g rs) false true ps) = search rules in
    c.in_ok-one_of.ensures ∙ ap one_distributed parts ∙ disjunction_holds g rs a s ps

pub open_disjunction-returns-clause-no : goal.open_disjunction-returns-clause-no
open_disjunction-returns-clause-no t c s =
    let g = language_view c.args.language.now in
    let rs = map replaced_view c.args.replaced.now in
    let ps = patterns_view c.args.patterns.now in
    let parts : map distributed_view c.deref-2.result.now ≡ distributions_of (all_opened (opened_leaf g rs) c.args.alone false ps) = search rules in
    c.in_ok-all_of.ensures ∙ ap all_distributed parts ∙ disjunction_fails g rs c.args.alone s ps

pub open_whole-returns-in-And-clause-yes : goal.open_whole-returns-in-And-clause-yes
open_whole-returns-in-And-clause-yes t c =
    let s = sort_view c.in-And.sort in
    let opens = opened_by (language_view c.args.language.now) (map replaced_view c.args.replaced.now) c.args.alone.yes true in
    let is : view c.args.pattern.now ≡ conjunction s (patterns_view c.in-And.patterns.items) = search (rules, the_lemmas) in
    subst (λ p. IfOk c.open_conjunction.result (λ o. distributed_view o.yes ≡ distribution_of (opens p))) (sym is)
    (subst (λ ps. IfOk c.open_conjunction.result (λ o. distributed_view o.yes ≡ distribution_of (opens (conjunction s (patterns_view ps))))) c.deref-in-And.ensures.value (c.open_conjunction.ensures.yes s))

pub open_whole-returns-in-And-clause-no : goal.open_whole-returns-in-And-clause-no
open_whole-returns-in-And-clause-no t c =
    let s = sort_view c.in-And.sort in
    let opens = opened_by (language_view c.args.language.now) (map replaced_view c.args.replaced.now) c.args.alone.no false in
    let is : view c.args.pattern.now ≡ conjunction s (patterns_view c.in-And.patterns.items) = search (rules, the_lemmas) in
    subst (λ p. IfOk c.open_conjunction.result (λ o. distributed_view o.no ≡ distribution_of (opens p))) (sym is)
    (subst (λ ps. IfOk c.open_conjunction.result (λ o. distributed_view o.no ≡ distribution_of (opens (conjunction s (patterns_view ps))))) c.deref-in-And.ensures.value (c.open_conjunction.ensures.no s c.args.alone.no))

pub open_whole-returns-in-Or-clause-yes : goal.open_whole-returns-in-Or-clause-yes
open_whole-returns-in-Or-clause-yes t c =
    let s = sort_view c.in-Or.sort in
    let opens = opened_by (language_view c.args.language.now) (map replaced_view c.args.replaced.now) c.args.alone.yes true in
    let is : view c.args.pattern.now ≡ disjunction s (patterns_view c.in-Or.patterns.items) = search (rules, the_lemmas) in
    subst (λ p. IfOk c.open_disjunction.result (λ o. distributed_view o.yes ≡ distribution_of (opens p))) (sym is)
    (subst (λ ps. IfOk c.open_disjunction.result (λ o. distributed_view o.yes ≡ distribution_of (opens (disjunction s (patterns_view ps))))) c.deref-in-Or.ensures.value (c.open_disjunction.ensures.yes s c.args.alone.yes))

pub open_whole-returns-in-Or-clause-no : goal.open_whole-returns-in-Or-clause-no
open_whole-returns-in-Or-clause-no t c =
    let s = sort_view c.in-Or.sort in
    let opens = opened_by (language_view c.args.language.now) (map replaced_view c.args.replaced.now) c.args.alone.no false in
    let is : view c.args.pattern.now ≡ disjunction s (patterns_view c.in-Or.patterns.items) = search (rules, the_lemmas) in
    subst (λ p. IfOk c.open_disjunction.result (λ o. distributed_view o.no ≡ distribution_of (opens p))) (sym is)
    (subst (λ ps. IfOk c.open_disjunction.result (λ o. distributed_view o.no ≡ distribution_of (opens (disjunction s (patterns_view ps))))) c.deref-in-Or.ensures.value (c.open_disjunction.ensures.no s))

pub open_whole-returns-in_ok-implication-in-Implies-clause-yes : goal.open_whole-returns-in_ok-implication-in-Implies-clause-yes
open_whole-returns-in_ok-implication-in-Implies-clause-yes t c =
    let g = language_view c.args.language.now in
    let rs = map replaced_view c.args.replaced.now in
    let s = sort_view c.in-Implies.sort in
    let p = view c.in-Implies.left.value in
    let q = view c.in-Implies.right.value in
    let is : view c.args.pattern.now ≡ implication s p q = search (rules, the_lemmas) in
    let left_no : distributed_view c.in_ok-left-in-Implies.left.no ≡ distribution_of (opened_by g rs false false p)
    = subst (λ x. distributed_view c.in_ok-left-in-Implies.left.no ≡ distribution_of (opened_by g rs false false (view x))) c.deref-in-Implies.ensures c.in_ok-left-in-Implies.ensures.no in
    let right_yes : distributed_view c.in_ok-right-in-Implies.right.yes ≡ distribution_of (opened_by g rs false true q)
    = subst (λ x. distributed_view c.in_ok-right-in-Implies.right.yes ≡ distribution_of (opened_by g rs false true (view x))) c.deref-in-Implies-2.ensures c.in_ok-right-in-Implies.ensures.yes in
    c.in_ok-implication-in-Implies.ensures.yes ∙ ap₂ (λ x y. one_distributed (x ∷ y ∷ [])) left_no right_yes
    ∙ implication_holds g rs c.args.alone.yes s p q ∙ ap (λ x. distribution_of (opened_by g rs c.args.alone.yes true x)) (sym is)

pub open_whole-returns-in_ok-implication-in-Implies-clause-no : goal.open_whole-returns-in_ok-implication-in-Implies-clause-no
open_whole-returns-in_ok-implication-in-Implies-clause-no t c =
    let g = language_view c.args.language.now in
    let rs = map replaced_view c.args.replaced.now in
    let s = sort_view c.in-Implies.sort in
    let p = view c.in-Implies.left.value in
    let q = view c.in-Implies.right.value in
    let is : view c.args.pattern.now ≡ implication s p q = search (rules, the_lemmas) in
    let left_yes : distributed_view c.in_ok-left-in-Implies.left.yes ≡ distribution_of (opened_by g rs c.args.alone.no true p)
    = subst (λ x. distributed_view c.in_ok-left-in-Implies.left.yes ≡ distribution_of (opened_by g rs c.args.alone.no true (view x))) c.deref-in-Implies.ensures c.in_ok-left-in-Implies.ensures.yes in
    let right_no : distributed_view c.in_ok-right-in-Implies.right.no ≡ distribution_of (opened_by g rs c.args.alone.no false q)
    = subst (λ x. distributed_view c.in_ok-right-in-Implies.right.no ≡ distribution_of (opened_by g rs c.args.alone.no false (view x))) c.deref-in-Implies-2.ensures c.in_ok-right-in-Implies.ensures.no in
    c.in_ok-implication-in-Implies.ensures.no ∙ ap₂ (λ x y. all_distributed (x ∷ y ∷ [])) left_yes right_no
    ∙ implication_fails g rs c.args.alone.no s p q ∙ ap (λ x. distribution_of (opened_by g rs c.args.alone.no false x)) (sym is)

pub open_whole-returns-in_ok-agreement-in-Iff-clause-yes : goal.open_whole-returns-in_ok-agreement-in-Iff-clause-yes
open_whole-returns-in_ok-agreement-in-Iff-clause-yes t c =
    let g = language_view c.args.language.now in
    let rs = map replaced_view c.args.replaced.now in
    let s = sort_view c.in-Iff.sort in
    let p = view c.in-Iff.left.value in
    let q = view c.in-Iff.right.value in
    let is : view c.args.pattern.now ≡ equivalence s p q = search (rules, the_lemmas) in
    let left_yes : distributed_view c.in_ok-left-in-Iff.left.yes ≡ distribution_of (opened_by g rs false true p)
    = subst (λ x. distributed_view c.in_ok-left-in-Iff.left.yes ≡ distribution_of (opened_by g rs false true (view x))) c.deref-in-Iff.ensures c.in_ok-left-in-Iff.ensures.yes in
    let left_no : distributed_view c.in_ok-left-in-Iff.left.no ≡ distribution_of (opened_by g rs false false p)
    = subst (λ x. distributed_view c.in_ok-left-in-Iff.left.no ≡ distribution_of (opened_by g rs false false (view x))) c.deref-in-Iff.ensures c.in_ok-left-in-Iff.ensures.no in
    let right_yes : distributed_view c.in_ok-right-in-Iff.right.yes ≡ distribution_of (opened_by g rs false true q)
    = subst (λ x. distributed_view c.in_ok-right-in-Iff.right.yes ≡ distribution_of (opened_by g rs false true (view x))) c.deref-in-Iff-2.ensures c.in_ok-right-in-Iff.ensures.yes in
    let right_no : distributed_view c.in_ok-right-in-Iff.right.no ≡ distribution_of (opened_by g rs false false q)
    = subst (λ x. distributed_view c.in_ok-right-in-Iff.right.no ≡ distribution_of (opened_by g rs false false (view x))) c.deref-in-Iff-2.ensures c.in_ok-right-in-Iff.ensures.no in
    c.in_ok-agreement-in-Iff.ensures.yes ∙ ap₂ (λ x y. agreement_of x y (distributed_view c.in_ok-right-in-Iff.right.yes) (distributed_view c.in_ok-right-in-Iff.right.no)) left_yes left_no
    ∙ ap₂ (agreement_of (distribution_of (opened_by g rs false true p)) (distribution_of (opened_by g rs false false p))) right_yes right_no
    ∙ agreement_holds g rs c.args.alone.yes s p q ∙ ap (λ x. distribution_of (opened_by g rs c.args.alone.yes true x)) (sym is)

pub open_whole-returns-in_ok-agreement-in-Iff-clause-no : goal.open_whole-returns-in_ok-agreement-in-Iff-clause-no
open_whole-returns-in_ok-agreement-in-Iff-clause-no t c =
    let g = language_view c.args.language.now in
    let rs = map replaced_view c.args.replaced.now in
    let s = sort_view c.in-Iff.sort in
    let p = view c.in-Iff.left.value in
    let q = view c.in-Iff.right.value in
    let is : view c.args.pattern.now ≡ equivalence s p q = search (rules, the_lemmas) in
    let left_yes : distributed_view c.in_ok-left-in-Iff.left.yes ≡ distribution_of (opened_by g rs false true p)
    = subst (λ x. distributed_view c.in_ok-left-in-Iff.left.yes ≡ distribution_of (opened_by g rs false true (view x))) c.deref-in-Iff.ensures c.in_ok-left-in-Iff.ensures.yes in
    let left_no : distributed_view c.in_ok-left-in-Iff.left.no ≡ distribution_of (opened_by g rs false false p)
    = subst (λ x. distributed_view c.in_ok-left-in-Iff.left.no ≡ distribution_of (opened_by g rs false false (view x))) c.deref-in-Iff.ensures c.in_ok-left-in-Iff.ensures.no in
    let right_yes : distributed_view c.in_ok-right-in-Iff.right.yes ≡ distribution_of (opened_by g rs false true q)
    = subst (λ x. distributed_view c.in_ok-right-in-Iff.right.yes ≡ distribution_of (opened_by g rs false true (view x))) c.deref-in-Iff-2.ensures c.in_ok-right-in-Iff.ensures.yes in
    let right_no : distributed_view c.in_ok-right-in-Iff.right.no ≡ distribution_of (opened_by g rs false false q)
    = subst (λ x. distributed_view c.in_ok-right-in-Iff.right.no ≡ distribution_of (opened_by g rs false false (view x))) c.deref-in-Iff-2.ensures c.in_ok-right-in-Iff.ensures.no in
    c.in_ok-agreement-in-Iff.ensures.no ∙ ap₂ (λ x y. agreement_of x y (distributed_view c.in_ok-right-in-Iff.right.no) (distributed_view c.in_ok-right-in-Iff.right.yes)) left_yes left_no
    ∙ ap₂ (agreement_of (distribution_of (opened_by g rs false true p)) (distribution_of (opened_by g rs false false p))) right_no right_yes
    ∙ agreement_fails g rs c.args.alone.no s p q ∙ ap (λ x. distribution_of (opened_by g rs c.args.alone.no false x)) (sym is)

pub open_whole-returns-in-Not-clause-refused : goal.open_whole-returns-in-Not-clause-refused
open_whole-returns-in-Not-clause-refused t c =
    let g = language_view c.args.language.now in
    let is : view c.args.pattern.now ≡ negation (sort_view c.in-Not.sort) (view c.in-Not.pattern.value) = search (rules, the_lemmas) in
    handed c.open_negation.result (λ faultless. subst (λ q. IsFaultless g (view q)) (sym c.deref.ensures) (of_negation g (sort_view c.in-Not.sort) (view c.in-Not.pattern.value) (subst (IsFaultless g) is faultless))) c.open_negation.ensures.refused

pub open_whole-returns-in-And-clause-refused : goal.open_whole-returns-in-And-clause-refused
open_whole-returns-in-And-clause-refused t c =
    let g = language_view c.args.language.now in
    let is : view c.args.pattern.now ≡ conjunction (sort_view c.in-And.sort) (patterns_view c.in-And.patterns.items) = search (rules, the_lemmas) in
    handed c.open_conjunction.result (λ faultless. subst (AllByRecursion (λ q. IsFaultless g (view q))) (sym c.deref-in-And.ensures.value) (of_conjunction g (sort_view c.in-And.sort) c.in-And.patterns.items (subst (IsFaultless g) is faultless))) c.open_conjunction.ensures.refused

pub open_whole-returns-in-Or-clause-refused : goal.open_whole-returns-in-Or-clause-refused
open_whole-returns-in-Or-clause-refused t c =
    let g = language_view c.args.language.now in
    let is : view c.args.pattern.now ≡ disjunction (sort_view c.in-Or.sort) (patterns_view c.in-Or.patterns.items) = search (rules, the_lemmas) in
    handed c.open_disjunction.result (λ faultless. subst (AllByRecursion (λ q. IsFaultless g (view q))) (sym c.deref-in-Or.ensures.value) (of_disjunction g (sort_view c.in-Or.sort) c.in-Or.patterns.items (subst (IsFaultless g) is faultless))) c.open_disjunction.ensures.refused

pub open_whole-returns-in_err-left-in-Implies-clause-refused : goal.open_whole-returns-in_err-left-in-Implies-clause-refused
open_whole-returns-in_err-left-in-Implies-clause-refused t c =
    let g = language_view c.args.language.now in
    let p = err_from_is_err_and c.from_residual-in_err-left-in-Implies.result c.from_residual-in_err-left-in-Implies.ensures.1 in
    let is : view c.args.pattern.now ≡ implication (sort_view c.in-Implies.sort) (view c.in-Implies.left.value) (view c.in-Implies.right.value) = search (rules, the_lemmas) in
    rw (p.1, p.2) (λ faultless. c.in_err-left-in-Implies.ensures.refused (subst (λ q. IsFaultless g (view q)) (sym c.deref-in-Implies.ensures) (first_implied g (sort_view c.in-Implies.sort) (view c.in-Implies.left.value) (view c.in-Implies.right.value) (subst (IsFaultless g) is faultless))))

pub open_whole-returns-in_err-right-in-Implies-clause-refused : goal.open_whole-returns-in_err-right-in-Implies-clause-refused
open_whole-returns-in_err-right-in-Implies-clause-refused t c =
    let g = language_view c.args.language.now in
    let p = err_from_is_err_and c.from_residual-in_err-right-in-Implies.result c.from_residual-in_err-right-in-Implies.ensures.1 in
    let is : view c.args.pattern.now ≡ implication (sort_view c.in-Implies.sort) (view c.in-Implies.left.value) (view c.in-Implies.right.value) = search (rules, the_lemmas) in
    rw (p.1, p.2) (λ faultless. c.in_err-right-in-Implies.ensures.refused (subst (λ q. IsFaultless g (view q)) (sym c.deref-in-Implies-2.ensures) (second_implied g (sort_view c.in-Implies.sort) (view c.in-Implies.left.value) (view c.in-Implies.right.value) (subst (IsFaultless g) is faultless))))

pub open_whole-returns-in_err-left-in-Iff-clause-refused : goal.open_whole-returns-in_err-left-in-Iff-clause-refused
open_whole-returns-in_err-left-in-Iff-clause-refused t c =
    let g = language_view c.args.language.now in
    let p = err_from_is_err_and c.from_residual-in_err-left-in-Iff.result c.from_residual-in_err-left-in-Iff.ensures.1 in
    let is : view c.args.pattern.now ≡ equivalence (sort_view c.in-Iff.sort) (view c.in-Iff.left.value) (view c.in-Iff.right.value) = search (rules, the_lemmas) in
    rw (p.1, p.2) (λ faultless. c.in_err-left-in-Iff.ensures.refused (subst (λ q. IsFaultless g (view q)) (sym c.deref-in-Iff.ensures) (first_equivalent g (sort_view c.in-Iff.sort) (view c.in-Iff.left.value) (view c.in-Iff.right.value) (subst (IsFaultless g) is faultless))))

pub open_whole-returns-in_err-right-in-Iff-clause-refused : goal.open_whole-returns-in_err-right-in-Iff-clause-refused
open_whole-returns-in_err-right-in-Iff-clause-refused t c =
    let g = language_view c.args.language.now in
    let p = err_from_is_err_and c.from_residual-in_err-right-in-Iff.result c.from_residual-in_err-right-in-Iff.ensures.1 in
    let is : view c.args.pattern.now ≡ equivalence (sort_view c.in-Iff.sort) (view c.in-Iff.left.value) (view c.in-Iff.right.value) = search (rules, the_lemmas) in
    rw (p.1, p.2) (λ faultless. c.in_err-right-in-Iff.ensures.refused (subst (λ q. IsFaultless g (view q)) (sym c.deref-in-Iff-2.ensures) (second_equivalent g (sort_view c.in-Iff.sort) (view c.in-Iff.left.value) (view c.in-Iff.right.value) (subst (IsFaultless g) is faultless))))

pub open_each-returns-in_err-yes-clause-refused : goal.open_each-returns-in_err-yes-clause-refused
open_each-returns-in_err-yes-clause-refused t c =
    let p = err_from_is_err_and c.from_residual.result c.from_residual.ensures.1 in
    rw (p.1, p.2) (λ all. c.in_err-yes.ensures.refused
    (faultless_at (language_view c.args.language.now) c.args.patterns.now c.loop-pattern.pattern-index c.pattern-item.result c.loop-pattern-test.true c.pattern-item.is all))

pub open_whole-returns-else-is_conjoined_pair-clause-refused : goal.open_whole-returns-else-is_conjoined_pair-clause-refused
open_whole-returns-else-is_conjoined_pair-clause-refused t c =
    let g = language_view c.args.language.now in
    let is : view c.args.pattern.now ≡ ceil (sort_view c.in-Ceil.argument_sort) (sort_view c.in-Ceil.sort) (view c.in-Ceil.inner.value) = search (rules, the_lemmas) in
    handed c.open_whole-in-Ceil.result (λ faultless. subst (λ q. IsFaultless g (view q)) (sym c.deref-in-Ceil-2.ensures) (of_ceil g (sort_view c.in-Ceil.argument_sort) (sort_view c.in-Ceil.sort) (view c.in-Ceil.inner.value) (subst (IsFaultless g) is faultless))) c.open_whole-in-Ceil.ensures.refused

pub open_whole-returns-else-is_term-2-clause-refused : goal.open_whole-returns-else-is_term-2-clause-refused
open_whole-returns-else-is_term-2-clause-refused t c =
    let g = language_view c.args.language.now in
    let is : view c.args.pattern.now ≡ floor (sort_view c.in-Floor.argument_sort) (sort_view c.in-Floor.sort) (view c.in-Floor.inner.value) = search (rules, the_lemmas) in
    handed c.open_whole-in-Floor.result (λ faultless. subst (λ q. IsFaultless g (view q)) (sym c.deref-in-Floor-2.ensures) (of_floor g (sort_view c.in-Floor.argument_sort) (sort_view c.in-Floor.sort) (view c.in-Floor.inner.value) (subst (IsFaultless g) is faultless))) c.open_whole-in-Floor.ensures.refused
