use Rattle.std.proofs.lemmas.Result.{err_from_is_err_and}
use Rattle.kp_signature.specs.View.{signature_view}
use Rattle.kp_ground.specs.TermView.{term_view}
use Rattle.kp_ground.specs.View.{value_view}
use Rattle.kp_successors.proofs.Refused.{from_evaluation, from_spelling, evaluated_wide}
use Rattle.kp_successors.proofs.next.plain.Goals as goal

pub returns-clause-next : goal.returns-clause-next
returns-clause-next c = record {
  value = value_view c.in_ok-value.value;
  meant = λ v s. (c.in_ok-value.ensures v s).0;
  spelled = c.in_ok-spelled.ensures.meant;
}

pub returns-clause-narrow : goal.returns-clause-narrow
returns-clause-narrow c = λ v s. (c.in_ok-value.ensures v s).1

pub returns-in_err-value-clause-refused : goal.returns-in_err-value-clause-refused
returns-in_err-value-clause-refused c =
    let p = err_from_is_err_and c.from_residual.result c.from_residual.ensures.1 in
    rw p.1 (from_evaluation (signature_view c.args.signature.now) _ c.in_err-value.field-0.0 p.0 p.2
    (λ is. evaluated_wide c.in_err-value.field-0.0 c.args.bindings.now (term_view c.args.rewrite.now.right) c.in_err-value.ensures is))

pub returns-in_err-spelled-clause-refused : goal.returns-in_err-spelled-clause-refused
returns-in_err-spelled-clause-refused c =
    let p = err_from_is_err_and c.from_residual-in_err-spelled.result c.from_residual-in_err-spelled.ensures.1 in
    rw p.1 (from_spelling (signature_view c.args.signature.now) _ c.in_err-spelled.field-0.0 p.0 p.2 (λ is. c.in_err-spelled.ensures.no_injection is))
