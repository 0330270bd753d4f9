use Rattle.std.proofs.Common.{option_map, sym, ap, ◌∙◌}
use Rattle.serde_json.specs.View.{view}
use Rattle.kp_kore.specs.View.{view as pattern_view}
use Rattle.kp_rpc.specs.View.{name_view}
use Rattle.kp_requests.proofs.Plain.{simplify_written}
use Rattle.kp_requests.proofs.asked.simplify_text.Goals as goal

pub returns-in_ok-to_vec-in-Some-clause-text : goal.returns-in_ok-to_vec-in-Some-clause-text
returns-in_ok-to_vec-in-Some-clause-text c =
    simplify_written c.args.id.now (pattern_view c.args.state.now) (name_view c.args.module_name.now) (view c.in-Some.tree) c.in_ok-to_vec-in-Some.field-0.items
    (ap (option_map view) (sym c.in-Some.is) ∙ c.in_ok-tree.ensures) c.in_ok-to_vec-in-Some.ensures.text
