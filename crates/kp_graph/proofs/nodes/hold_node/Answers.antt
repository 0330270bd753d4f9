use Rattle.std.proofs.Common.{refl, ◌∙◌, Some}
use Rattle.kp_graph.specs.View.{why_view}
use Rattle.kp_graph.proofs.Places.{put}
use Rattle.kp_graph.proofs.RowLemmas.{closed_put, put_passes, held_closed}
use Rattle.kp_graph.proofs.nodes.hold_node.Goals as goal

pub join_rows-requires-clause-closed : goal.join_rows-requires-clause-closed
join_rows-requires-clause-closed c = closed_put c.args.nodes.now c.args.place _ (held_closed _) c.requires.within

pub join_rows-requires-clause-pass : goal.join_rows-requires-clause-pass
join_rows-requires-clause-pass c = put_passes c.args.nodes.now c.args.place c.index-nodes-place.result _ (held_closed _) refl c.requires.within c.requires.pass

pub returns-clause-held : goal.returns-clause-held
returns-clause-held c = c.join_rows.ensures.same ∙ put (λ x. record x { held = Some (why_view c.args.why) }) c.args.nodes.now c.args.place c.index-nodes-place.result _ c.requires.within refl
