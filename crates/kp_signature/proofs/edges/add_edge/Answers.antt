use Rattle.kp_signature.proofs.EdgeLemmas.{edge_set}
use Rattle.kp_signature.proofs.edges.add_edge.Goals as goal

pub returns-in_ok-push : goal.returns-in_ok-push
returns-in_ok-push c h = edge_set c.args.edges.now.items c.args.from c.args.to c.index_mut.result.now c.push.new.self h c.index_mut.ensures.value c.in_ok-push.ensures.items
