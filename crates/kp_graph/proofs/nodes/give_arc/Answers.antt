use Rattle.std.proofs.Common.{refl, ◌∙◌, Some}
use Rattle.kp_graph.specs.View.{arc_view}
use Rattle.kp_graph.proofs.Places.{put}
use Rattle.kp_graph.proofs.RowLemmas.{closed_put, put_passes}
use Rattle.kp_graph.proofs.nodes.give_arc.Goals as goal

pub join_rows-requires-clause-closed : goal.join_rows-requires-clause-closed
join_rows-requires-clause-closed c = closed_put c.args.nodes.now c.args.place _ refl c.requires.within

pub join_rows-requires-clause-pass : goal.join_rows-requires-clause-pass
join_rows-requires-clause-pass c = put_passes c.args.nodes.now c.args.place c.index-nodes-place.result _ refl refl c.requires.within c.requires.pass

pub returns-clause-arc : goal.returns-clause-arc
returns-clause-arc c = c.join_rows.ensures.same ∙ put (λ x. record x { arc = Some (arc_view c.args.arc) }) c.args.nodes.now c.args.place c.index-nodes-place.result _ c.requires.within refl
