use Rattle.std.proofs.Common.{[]}
use Rattle.kp_signature.proofs.graph.SortGraph.add_sort_at.Goals as goal

pub returns-in_ok-number_for : goal.returns-in_ok-number_for
returns-in_ok-number_for c ix = (c.in_ok-number_for.ensures [] ix).kept
