use Rattle.std.proofs.Common.{arith}
use Rattle.kp_kore.specs.View.{sorts_view}
use Rattle.kp_overlap.specs.Placing.{with_sorts, asked}
use Rattle.kp_overlap.specs.Views.{graph_view}
use Rattle.kp_overlap.proofs.PlaceCode.{asked_more, asked_out}
use Rattle.kp_overlap.proofs.graph.Graph.ask_all.Goals as goal

pub loop-i-preserved : goal.loop-i-preserved
loop-i-preserved c =
    let t = with_sorts (graph_view c.args.self.now) (asked (sorts_view c.args.sorts.now) c.args.places.now) in
    asked_more (graph_view c.loop-i.self) (graph_view c.ask.new.self) t c.args.sorts.now c.args.places.now c.loop-i.i c.index-sorts-i.result (omega arith) (omega arith) c.index-sorts-i.is c.in_ok-ask.ensures c.loop-i.invariant

pub returns : goal.returns
returns c =
    let t = with_sorts (graph_view c.args.self.now) (asked (sorts_view c.args.sorts.now) c.args.places.now) in
    asked_out (graph_view c.loop-i.self) t c.args.sorts.now c.args.places.now c.loop-i.i (omega arith) (omega arith) c.loop-i.invariant
