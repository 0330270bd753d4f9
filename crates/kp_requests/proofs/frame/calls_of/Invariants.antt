use Rattle.std.proofs.Common.{◌≡◌, ◌++◌, drop}
use Rattle.serde_json.specs.View.{items_view}
use Rattle.kp_requests.specs.Calls.{read_calls}
use Rattle.kp_requests.specs.View.{calls_view}
use Rattle.kp_requests.proofs.frame.calls_of.Given as goal

abbrev pub invariant-loop-member : goal.invariant-loop-member
invariant-loop-member l = calls_view l.calls.items ++ read_calls (items_view (drop l.member-index l.members)) ≡ read_calls (items_view l.initial.members)
