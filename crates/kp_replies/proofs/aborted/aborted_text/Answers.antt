use Rattle.std.proofs.Common.{option_map, sym, ap, ◌∙◌}
use Rattle.serde_json.specs.View.{view}
use Rattle.kp_rpc.specs.View.{id_view}
use Rattle.kp_results.specs.View.{state_view, undecided_view}
use Rattle.kp_replies.proofs.Plain.{aborted_exact}
use Rattle.kp_replies.proofs.aborted.aborted_text.Goals as goal

pub returns-in_ok-written_result-in-Some : goal.returns-in_ok-written_result-in-Some
returns-in_ok-written_result-in-Some c =
    aborted_exact c.args.depth (state_view c.args.state.now) (undecided_view c.args.undecided.now) (view c.in-Some.tree) (id_view c.args.id.now) c.in_ok-written_result-in-Some.field-0.items
    (ap (option_map view) (sym c.in-Some.is) ∙ c.in_ok-tree.ensures) c.in_ok-written_result-in-Some.ensures
