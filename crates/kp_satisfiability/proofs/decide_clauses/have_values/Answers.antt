use Rattle.std.proofs.Common.{rules, ◌≡◌, ◌∙◌, sym, subst, true, false}
use Rattle.kp_demands.proofs.Lists.{image_at}
use Rattle.kp_signature.specs.View.{signature_view}
use Rattle.kp_heads.specs.Heads.{HasValue}
use Rattle.kp_symbolic.specs.View.{variable_view}
use Rattle.kp_satisfiability.proofs.Along.{image_more}
use Rattle.kp_satisfiability.proofs.HeadSearch.{true_false}
use Rattle.kp_satisfiability.proofs.decide_clauses.have_values.Goals as goal

pub returns-then-not-has_value : goal.returns-then-not-has_value
returns-then-not-has_value c =
    let g = signature_view c.args.signature.now in
    let no : c.has_value.result ≡ false = search rules in (
      (λ t. absurd (true_false (sym t))),
      (λ all.
          let own = image_at (λ x. HasValue g x.sort) (λ x. variable_view x.value) c.args.variables.now c.loop-variable.variable-index c.variable-item.result c.loop-variable-test.true c.variable-item.is all in
          absurd (true_false (sym (c.has_value.ensures.1 (subst (λ x. HasValue g (variable_view x).sort) (sym c.deref.ensures) own)) ∙ no))),
    )

pub loop-variable-preserved : goal.loop-variable-preserved
loop-variable-preserved c =
    let g = signature_view c.args.signature.now in
    let met : c.has_value.result ≡ true = search rules in
    image_more (λ x. HasValue g x.sort) (λ x. variable_view x.value) c.args.variables.now c.loop-variable.variable-index c.variable-item.result c.loop-variable-test.true c.variable-item.is c.loop-variable.invariant
    (subst (λ x. HasValue g (variable_view x).sort) c.deref.ensures (c.has_value.ensures.0 met))
