use Rattle.std.proofs.Common.{◌↔◌, IsTrue, sym, ◌∙◌, subst}
use Rattle.kp_signature.specs.View.{signature_view}
use Rattle.kp_kore.specs.Instance.{Valuation}
use Rattle.kp_ground.specs.View.{value_view}
use Rattle.kp_rules.specs.Heads.{FiresAs}
use Rattle.kp_run.specs.Turns.{BodyFires}
use Rattle.kp_successors.proofs.Finding.{fires_as}
use Rattle.kp_successors.proofs.least.fires.Goals as goal

pub returns-in_ok-fires-in-Rewrite-clause-fires : goal.returns-in_ok-fires-in-Rewrite-clause-fires
returns-in_ok-fires-in-Rewrite-clause-fires c =
    let g = signature_view c.args.signature.now in
    let u = value_view c.args.value.now in
    let r = c.in-Rewrite.rewrite in
    let all = fires_as g r u c.in_ok-fires-in-Rewrite.field-0 c.in_ok-fires-in-Rewrite.ensures.firing c.in_ok-fires-in-Rewrite.ensures.solvable in
    subst (λ b. IsTrue c.is_some.result ↔ BodyFires g u b) (sym c.in-Rewrite.is ∙ c.deref.ensures) (subst (λ x. IsTrue x ↔ ((v : Valuation) × FiresAs g r u v)) (sym c.is_some.ensures) all)
