use Rattle.std.proofs.Common.{rules, ◌≡◌, ◌∙◌, false, subst}
use Rattle.std.specs.Result.{IfOk}
use Rattle.kp_signature.specs.View.{signature_view}
use Rattle.kp_symbolic.specs.Clauses.{opened_atom}
use Rattle.kp_symbolic.specs.View.{literal_view}
use Rattle.kp_formulas.specs.FormulaView.{formula_view}
use Rattle.kp_formulas.specs.Distribution.{distribution_of}
use Rattle.kp_formulas.specs.DistributionView.{distributed_view}
use Rattle.kp_step.proofs.NegateLemmas.{opposite_opened}
use Rattle.kp_step.proofs.opposite.deny_literal.Goals as goal

pub returns : goal.returns
returns c =
    let g = signature_view c.args.signature.now in
    let k = literal_view c.in_ok-opposite.opposite in
    let opened : formula_view c.in_ok-formula.formula ≡ opened_atom g false k.holds k.atom = search rules in
    subst (λ f. IfOk c.distribute.result (λ d. distributed_view d ≡ distribution_of f)) (opened ∙ opposite_opened g (literal_view c.args.literal.now) k c.in_ok-opposite.ensures) (search rules)
