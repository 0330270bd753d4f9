use Rattle.std.proofs.Common.{option_map, ap, ◌∙◌}
use Rattle.std.specs.Prelude.{codes}
use Rattle.serde_json.specs.Data.{object}
use Rattle.kp_kore.specs.View.{view as pattern_view}
use Rattle.kp_replies.specs.Written.{with_pattern}
use Rattle.kp_replies.proofs.written.simplified_value.Goals as goal

pub returns : goal.returns
returns c = c.object_value.ensures ∙ ap (option_map object) (c.in_ok-with_pattern_at.ensures ∙ ap (with_pattern (codes "state") (pattern_view c.args.state.now)) c.empty_object.ensures)
