use Rattle.std.proofs.Common.{◌≡◌, drop}
use Rattle.std.specs.List.{list_all}
use Rattle.kp_results.specs.View.{nexts_view, state_view}
use Rattle.kp_symbolic.specs.View.{variables_view}
use Rattle.kp_execute.specs.Lost.{mentions_none_lost, parts_variables}
use Rattle.kp_execute.proofs.lost_variables.none_lost.Given as goal

abbrev pub invariant-loop-next : goal.invariant-loop-next
invariant-loop-next l = let test = mentions_none_lost (variables_view l.hand) (parts_variables (state_view l.state)) in list_all test (nexts_view l.nexts) ≡ list_all test (nexts_view (drop l.next-index l.nexts))
