use Rattle.std.proofs.Common.{rules, ◌≡◌, sym, subst, map, IfOk}
use Rattle.std.specs.List.{AllByRecursion}
use Rattle.kp_kore.specs.Syntax.{conjunction}
use Rattle.kp_kore.specs.View.{view, sort_view, patterns_view}
use Rattle.kp_kore.specs.declared.pattern.Pattern.{the_lemmas}
use Rattle.kp_symbolic.specs.Opening.{opened_ceil}
use Rattle.kp_symbolic.specs.Faultless.{IsFaultless}
use Rattle.kp_symbolic.specs.Languages.{language_view}
use Rattle.kp_symbolic.specs.View.{replaced_view}
use Rattle.kp_symbolic.proofs.FaultlessParts.{of_conjunction}
use Rattle.kp_formulas.specs.FormulaView.{formula_view}
use Rattle.kp_formulas.proofs.FaultlessLemmas.{handed}
use Rattle.kp_formulas.proofs.leaf.open_ceil.Goals as goal

pub returns-in-And-clause-opened : goal.returns-in-And-clause-opened
returns-in-And-clause-opened c =
    let is : view c.args.pattern.now ≡ conjunction (sort_view c.in-And.sort) (patterns_view c.in-And.patterns.items) = search (rules, the_lemmas) in
    subst (λ p. IfOk c.open_defined.result (λ f. formula_view f ≡ opened_ceil (language_view c.args.language.now) (map replaced_view c.args.replaced.now) c.args.alone c.args.sign (sort_view c.args.sort.now) p)) (sym is)
    (subst (λ ps. IfOk c.open_defined.result (λ f. formula_view f ≡ opened_ceil (language_view c.args.language.now) (map replaced_view c.args.replaced.now) c.args.alone c.args.sign (sort_view c.args.sort.now) (conjunction (sort_view c.in-And.sort) (patterns_view ps)))) c.deref.ensures.value (c.open_defined.ensures.opened (sort_view c.in-And.sort)))

pub returns-in-And-clause-refused : goal.returns-in-And-clause-refused
returns-in-And-clause-refused c =
    let g = language_view c.args.language.now in
    let is : view c.args.pattern.now ≡ conjunction (sort_view c.in-And.sort) (patterns_view c.in-And.patterns.items) = search (rules, the_lemmas) in
    handed c.open_defined.result (λ faultless. subst (AllByRecursion (λ q. IsFaultless g (view q))) (sym c.deref.ensures.value) (of_conjunction g (sort_view c.in-And.sort) c.in-And.patterns.items (subst (IsFaultless g) is faultless))) c.open_defined.ensures.refused
