use Rattle.std.proofs.Common.{refl}
use Rattle.kp_graph.proofs.RowLemmas.{joined_view, joined_pass}
use Rattle.kp_graph.proofs.nodes.join_rows.Goals as goal

pub returns-clause-same : goal.returns-clause-same
returns-clause-same c = joined_view c.args.nodes.now c.row_start-start.result _ c.index-nodes-start.result _ c.index-nodes-start-2.result _ refl refl

pub returns-clause-pass : goal.returns-clause-pass
returns-clause-pass c = joined_pass c.args.nodes.now c.row_start-start.result c.args.place c.row_end.result _ c.index-nodes-start.result _ c.index-nodes-start-2.result _ refl refl refl refl refl c.row_start-start.ensures.before c.row_end.ensures.behind c.row_end.ensures.within c.row_start-start.ensures.row c.row_end.ensures.row c.requires.pass
