use Rattle.std.proofs.Common.{option_map, option_and_then, ap, ◌∙◌}
use Rattle.std.specs.Prelude.{codes}
use Rattle.serde_json.specs.Data.{object}
use Rattle.kp_results.specs.Results.{NextParts}
use Rattle.kp_results.specs.View.{next_view}
use Rattle.kp_rpc.specs.Questions.{with_text}
use Rattle.kp_replies.specs.Written.{with_pattern, with_state}
use Rattle.kp_replies.proofs.states.next_value.Goals as goal

pub returns : goal.returns
returns c =
    let n : NextParts = next_view c.args.next.now in
    let named = c.in_ok-object.ensures ∙ ap (with_text (codes "rule-id") n.rule) c.empty_object.ensures in
    c.object_value.ensures ∙ ap (option_map object) (c.in_ok-with_next_at.ensures ∙ ap (λ o. option_and_then (with_pattern (codes "rule-predicate") n.predicate) (with_state n.state o)) named)
