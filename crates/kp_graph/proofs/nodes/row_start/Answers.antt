use Rattle.std.proofs.Common.{arith}
use Rattle.kp_graph.proofs.RowLemmas.{row_up_to, closed_within}
use Rattle.kp_graph.proofs.nodes.row_start.Goals as goal

pub returns-clause-row : goal.returns-clause-row
returns-clause-row c =
    let within = closed_within c.args.nodes.now c.args.place c.requires.closed in
    row_up_to c.args.nodes.now c.args.place _ c.index-nodes-place-2.result c.requires.pass (omega (arith, c.if-row-place.false)) (omega (arith, within)) c.if-nodes-place.false c.requires.closed
