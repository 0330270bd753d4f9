use Rattle.std.proofs.Common.{drop}
use Rattle.kp_results.specs.View.{nexts_view}
use Rattle.kp_replies.specs.Written.{next_trees}
use Rattle.kp_replies.proofs.NextsWritten.{WritesOn}
use Rattle.kp_replies.proofs.states.nexts_value.Given as goal

abbrev pub invariant-loop-next : goal.invariant-loop-next
invariant-loop-next l = WritesOn (next_trees (nexts_view l.initial.nexts)) l.values.items (nexts_view (drop l.next-index l.nexts))
