use Rattle.std.proofs.Common.{◌↔◌, sym, subst}
use Rattle.std.specs.Prelude.{IfOk, IsTrue}
use Rattle.kp_signature.specs.View.{signature_view}
use Rattle.kp_ground.specs.View.{value_view}
use Rattle.kp_run.specs.Turns.{MightRewrite}
use Rattle.kp_run.proofs.step.might_rewrite.Goals as goal

pub returns-in-Foreign : goal.returns-in-Foreign
returns-in-Foreign c = λ s.
    subst (λ body. IfOk c.admits.result (λ b. IsTrue b ↔ MightRewrite (signature_view c.args.signature.now) (value_view c.args.value.now) body)) (sym c.in-Foreign.is) (c.admits.ensures s)
