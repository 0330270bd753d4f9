use Rattle.std.proofs.Common.{option_map, sym, ap, ◌∙◌}
use Rattle.serde_json.specs.View.{view}
use Rattle.kp_rpc.specs.View.{id_view}
use Rattle.kp_replies.specs.Failures.{failure_error, failed_reply}
use Rattle.kp_replies.specs.View.{failure_view}
use Rattle.kp_replies.proofs.Plain.{failure_exact}
use Rattle.kp_replies.proofs.failure.failure_text.Goals as goal

pub returns-in_ok-detailed_line-in-Some : goal.returns-in_ok-detailed_line-in-Some
returns-in_ok-detailed_line-in-Some c =
    failure_exact (failure_view c.args.failure.now) (view c.in-Some.details) (λ d. failed_reply (id_view c.args.id.now) (failure_error (failure_view c.args.failure.now) d))
    c.in_ok-detailed_line-in-Some.field-0.items (ap (option_map view) (sym c.in-Some.is) ∙ c.in_ok-details.ensures) c.in_ok-detailed_line-in-Some.ensures
