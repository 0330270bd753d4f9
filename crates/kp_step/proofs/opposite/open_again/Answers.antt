use Rattle.std.proofs.Common.{◌≡◌, refl, ap, subst}
use Rattle.std.specs.Result.{IfOk}
use Rattle.kp_signature.specs.View.{signature_view}
use Rattle.kp_formulas.specs.FormulaView.{formula_view}
use Rattle.kp_symbolic.specs.View.{atom_view, literal_view, term_view, test_view, variable_view}
use Rattle.kp_step.proofs.NegateLemmas.{head_opened}
use Rattle.kp_step.proofs.opposite.open_again.Goals as goal

pub returns-in_ok-term-in-Head : goal.returns-in_ok-term-in-Head
returns-in_ok-term-in-Head c =
    let l = c.args.literal.now in
    subst (λ x. IfOk c.open_test.result (λ f. formula_view f ≡ x))
    (head_opened (signature_view c.args.signature.now) l.holds (atom_view l.atom) (variable_view c.in-Head.variable.value) (test_view c.in-Head.test) (literal_view l) (term_view c.in_ok-term-in-Head.term) (ap atom_view c.in-Head.is) refl c.in_ok-term-in-Head.ensures)
    c.open_test.ensures
