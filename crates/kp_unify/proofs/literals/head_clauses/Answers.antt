use Rattle.std.proofs.Common.{rules, ◌≡◌, ◌∙◌}
use Rattle.kp_signature.specs.View.{signature_view}
use Rattle.kp_symbolic.specs.Opening.{literal_fact, opened_test}
use Rattle.kp_symbolic.specs.States.{has_head}
use Rattle.kp_symbolic.specs.Terms.{unknown}
use Rattle.kp_symbolic.specs.View.{variable_view, test_view}
use Rattle.kp_formulas.specs.Distribution.{distribution_of}
use Rattle.kp_formulas.specs.DistributionView.{distributed_view}
use Rattle.kp_unify.proofs.OpenedLemmas.{test_kept}
use Rattle.kp_unify.proofs.literals.head_clauses.Goals as goal

pub returns : goal.returns
returns c =
    let g = signature_view c.args.signature.now in
    let x = variable_view c.args.variable.now.value in
    let test = test_view c.args.test.now in
    let b = c.args.holds in
    let is : distributed_view c.in_ok-distribute.field-0 ≡ distribution_of (opened_test g b test (literal_fact b (has_head x test)) (unknown x)) = search rules in
    c.clauses_of.ensures ∙ test_kept g b x test (distributed_view c.in_ok-distribute.field-0) is
