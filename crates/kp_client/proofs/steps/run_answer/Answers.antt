use Rattle.std.proofs.Common.{◌≡◌, false, rules}
use Rattle.kp_results.specs.View.{executed_view, reason_view}
use Rattle.kp_client.specs.Rounds.{is_followed, by_reason}
use Rattle.kp_client.proofs.steps.run_answer.Goals as goal

pub returns-then-not-is_followed : goal.returns-then-not-is_followed
returns-then-not-is_followed c depth s e same h =
    let no : is_followed (reason_view c.args.run.reason) ≡ false = search rules in
    by_reason e (executed_view c.args.run) h no
