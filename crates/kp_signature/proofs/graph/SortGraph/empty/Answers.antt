use Rattle.kp_signature.proofs.NewOrder.{no_pairs}
use Rattle.kp_signature.proofs.graph.SortGraph.empty.Goals as goal

pub returns : goal.returns
returns c = no_pairs (record { numbering = c.empty.result; above = c.new.result; below = c.new-2.result }) c.empty.ensures.numbering c.empty.ensures.none c.new.ensures.items c.new-2.ensures.items
