use Rattle.std.proofs.Common.{rules, ◌≡◌, ◌∙◌, ap}
use Rattle.std.proofs.lemmas.Result.{IfOk-weaker}
use Rattle.kp_kore.specs.View.{sort_view}
use Rattle.kp_signature.specs.View.{signature_view}
use Rattle.kp_symbolic.specs.States.{head_of_sort}
use Rattle.kp_symbolic.specs.Writing.{written_test}
use Rattle.kp_symbolic.specs.View.{test_view, variable_view}
use Rattle.kp_outward.proofs.test.test_out.Goals as goal

pub returns-in-Sort-clause-written : goal.returns-in-Sort-clause-written
returns-in-Sort-clause-written c =
    let g = signature_view c.args.signature.now in
    let is : head_of_sort (sort_view c.deref-in-Sort.result.now) ≡ test_view c.args.test.now = search rules in
    IfOk-weaker c.sort_test.result _ _ (λ p told. told ∙ ap (written_test g (sort_view c.args.sort.now) (variable_view c.args.variable.now)) is) (c.sort_test.ensures g)
