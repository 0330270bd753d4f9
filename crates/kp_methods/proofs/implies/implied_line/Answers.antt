use Rattle.std.proofs.lemmas.Result.{IfOk-weaker}
use Rattle.kp_rpc.specs.View.{id_view}
use Rattle.kp_requests.specs.View.{reading_view}
use Rattle.kp_methods.specs.Prepared.{signature_in}
use Rattle.kp_methods.proofs.Implying.{sides_line_is_right}
use Rattle.kp_methods.proofs.implies.implied_line.Goals as goal

pub returns-in-Ok : goal.returns-in-Ok
returns-in-Ok c = c.told_line.ensures (signature_in c.args.prepared.now) (reading_view c.args.antecedent) (reading_view c.args.consequent) c.in-Ok.ensures.found

pub returns-in-Err : goal.returns-in-Err
returns-in-Err c =
    IfOk-weaker c.failure_line.result _ _ (λ line l. sides_line_is_right (signature_in c.args.prepared.now) (id_view c.args.id.now) (reading_view c.args.antecedent) (reading_view c.args.consequent) c.in-Err.failure c.in-Err.ensures.failed line.items l) c.failure_line.ensures
