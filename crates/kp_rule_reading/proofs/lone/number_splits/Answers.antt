use Rattle.std.proofs.lemmas.Result.{IfOk-weaker}
use Rattle.kp_rule_reading.proofs.lone.number_splits.Goals as goal

pub returns : goal.returns
returns c = IfOk-weaker c.is_settled.result _ _ (λ b h. h c.args.number c.in_ok-below.ensures c.in_ok-above.ensures) c.is_settled.ensures
