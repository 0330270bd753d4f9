use Rattle.std.proofs.Common.{option_map, ap, ◌∙◌}
use Rattle.serde_json.specs.Data.{object}
use Rattle.kp_results.specs.View.{state_view}
use Rattle.kp_replies.specs.Written.{with_state}
use Rattle.kp_replies.proofs.states.state_value.Goals as goal

pub returns : goal.returns
returns c = c.object_value.ensures ∙ ap (option_map object) (c.in_ok-with_state_at.ensures ∙ ap (with_state (state_view c.args.state.now)) c.empty_object.ensures)
