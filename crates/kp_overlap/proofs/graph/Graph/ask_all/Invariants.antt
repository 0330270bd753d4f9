use Rattle.std.proofs.Common.{◌≡◌, drop}
use Rattle.kp_kore.specs.View.{sorts_view}
use Rattle.kp_overlap.specs.Placing.{with_sorts, asked}
use Rattle.kp_overlap.specs.Views.{graph_view}
use Rattle.kp_overlap.proofs.graph.Graph.ask_all.Given as goal

abbrev pub invariant-loop-i : goal.invariant-loop-i
invariant-loop-i l = with_sorts (graph_view l.self) (asked (sorts_view (drop l.i l.sorts)) (drop l.i l.places)) ≡ with_sorts (graph_view l.initial.self) (asked (sorts_view l.sorts) l.places)
