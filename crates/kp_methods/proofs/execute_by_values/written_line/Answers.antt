use Rattle.std.proofs.Common.{◌≡◌, subst, ℕ, Vec}
use Rattle.std.specs.Option.{option_map}
use Rattle.std.specs.Result.{IfOk}
use Rattle.std.specs.declared.alloc.Global.{Global}
use Rattle.serde_json.specs.Data.{Data}
use Rattle.kp_replies.specs.Written.{executed_tree}
use Rattle.kp_results.specs.Results.{ExecutedParts}
use Rattle.kp_rpc.specs.Reply.{reply_bytes, result_reply}
use Rattle.kp_rpc.specs.View.{id_view}
use Rattle.kp_methods.proofs.execute_by_values.written_line.Goals as goal

pub returns : goal.returns
returns c =
    let id = id_view c.args.id.now in
    subst (λ (x : ExecutedParts). IfOk c.executed_text.result (λ o. option_map (λ (b : Vec ℕ Global). b.items) o ≡ option_map (λ (t : Data). reply_bytes (result_reply id t)) (executed_tree x))) c.in_ok-written.ensures c.executed_text.ensures
