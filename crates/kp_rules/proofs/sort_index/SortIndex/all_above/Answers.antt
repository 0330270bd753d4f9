use Rattle.std.proofs.Common.{◌↔◌, ℕ, List, Vec, Global, subst, Contains}
use Rattle.std.specs.Prelude.{IfOk}
use Rattle.kp_signature.specs.Edges.{IsReachedFrom, edges_of}
use Rattle.kp_rules.proofs.sort_index.SortIndex.all_above.Goals as goal

pub returns : goal.returns
returns c = subst (λ (edges : List (Vec ℕ Global)). IfOk c.all_reached.result (λ found. (j : ℕ) → Contains found.keys j ↔ IsReachedFrom (edges_of edges) c.args.numbers.now.keys j)) c.deref.ensures.value c.all_reached.ensures
