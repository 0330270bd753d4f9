use Rattle.std.proofs.Common.{drop}
use Rattle.serde_json.specs.View.{items_view}
use Rattle.kp_results.specs.View.{nexts_view}
use Rattle.kp_replies.specs.Read.{read_nexts}
use Rattle.kp_replies.proofs.NextsRead.{ReadsOn}
use Rattle.kp_replies.proofs.read_states.nexts_of.Given as goal

abbrev pub invariant-loop-value : goal.invariant-loop-value
invariant-loop-value l = ReadsOn (read_nexts (items_view l.initial.values)) (nexts_view l.nexts.items) (items_view (drop l.value-index l.values))
