use Rattle.std.proofs.Common.{◌≡◌, subst, map}
use Rattle.std.proofs.lemmas.Result.{err_from_is_err_and}
use Rattle.kp_kore.specs.View.{view}
use Rattle.kp_rules.specs.Shapes.{seen}
use Rattle.kp_rule_reading.proofs.sides.sides_of.Goals as goal

pub returns-clause-made : goal.returns-clause-made
returns-clause-made c = record {
  left = c.in_ok-left.ensures.form;
  condition = subst (λ ps. map view c.in_ok-condition.condition.items ≡ seen ps) c.deref.ensures.value c.in_ok-condition.ensures;
  right = c.in_ok-right.ensures.0;
  ensured = subst (λ ps. map view c.in_ok-right.ensured.items ≡ seen ps) c.deref-2.ensures.value c.in_ok-right.ensures.1;
  new_variables = c.in_ok-new_variables.ensures;
}

pub returns-in_err-left-clause-refused : goal.returns-in_err-left-clause-refused
returns-in_err-left-clause-refused c =
    let p = err_from_is_err_and c.from_residual.result c.from_residual.ensures.1 in
    rw (p.1, p.2) (λ verified. c.in_err-left.ensures.refused verified)
