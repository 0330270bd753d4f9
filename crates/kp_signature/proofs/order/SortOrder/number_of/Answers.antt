use Rattle.kp_signature.proofs.order.SortOrder.number_of.Goals as goal

pub returns : goal.returns
returns c pairs ix = c.number_of.ensures ix.graph.numbering
