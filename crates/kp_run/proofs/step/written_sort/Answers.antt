use Rattle.std.proofs.Common.{sym, subst}
use Rattle.std.proofs.lemmas.Result.{IfOk-weaker}
use Rattle.kp_kore.specs.View.{sort_view}
use Rattle.kp_signature.specs.View.{signature_view}
use Rattle.kp_kore.specs.Value.{HasSort}
use Rattle.kp_run.proofs.Above.{has_sort_above}
use Rattle.kp_run.proofs.step.written_sort.Goals as goal

pub returns-then-subsort-clause-sort : goal.returns-then-subsort-clause-sort
returns-then-subsort-clause-sort c = λ u h.
    let g = signature_view c.args.signature.now in
    IfOk-weaker c.copy-then-subsort.result _ _
    (λ s e. subst (λ k. HasSort g k u) (sym e) (has_sort_above g (sort_view c.args.right.now) (sort_view c.args.state.now) u (c.subsort.ensures.0 c.if-subsort.true) h))
    c.copy-then-subsort.ensures
