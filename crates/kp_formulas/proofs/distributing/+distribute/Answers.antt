use Rattle.std.proofs.Common.{rules, ◌≡◌, ◌∙◌, sym, ap, subst, map, IfOk}
use Rattle.kp_symbolic.specs.Formulas.{all_of, one_of}
use Rattle.kp_formulas.specs.FormulaView.{formula_view, formulas_of}
use Rattle.kp_formulas.specs.declared.formula.Formula.{the_lemmas}
use Rattle.kp_formulas.specs.Distribution.{distribution_of, distributions_of, all_distributed, one_distributed}
use Rattle.kp_formulas.specs.DistributionView.{distributed_view}
use Rattle.kp_formulas.proofs.DistributionLemmas.{all_are, one_is}
use Rattle.kp_formulas.proofs.distributing.+distribute.Goals as goal

pub distribute-returns-in_ok-parts-in-AllOf : goal.distribute-returns-in_ok-parts-in-AllOf
distribute-returns-in_ok-parts-in-AllOf t c =
    let fs = c.deref-in-AllOf.result.now in
    let is : formula_view c.args.formula.now ≡ all_of (formulas_of (map formula_view fs)) = search (rules, the_lemmas) in
    let parts : map distributed_view c.deref-in-AllOf-2.result.now ≡ distributions_of (formulas_of (map formula_view fs)) = search rules in
    subst (λ x. IfOk c.all_of.result (λ d. distributed_view d ≡ x))
    (ap all_distributed parts ∙ all_are (formulas_of (map formula_view fs)) ∙ ap distribution_of (sym is))
    c.all_of.ensures

pub distribute-returns-in_ok-parts-in-OneOf : goal.distribute-returns-in_ok-parts-in-OneOf
distribute-returns-in_ok-parts-in-OneOf t c =
    let fs = c.deref-in-OneOf-2.result.now in
    let is : formula_view c.args.formula.now ≡ one_of (formulas_of (map formula_view fs)) = search (rules, the_lemmas) in
    let parts : map distributed_view c.deref-in-OneOf-3.result.now ≡ distributions_of (formulas_of (map formula_view fs)) = search rules in
    subst (λ x. IfOk c.one_of.result (λ d. distributed_view d ≡ x))
    (ap one_distributed parts ∙ one_is (formulas_of (map formula_view fs)) ∙ ap distribution_of (sym is))
    c.one_of.ensures
