use Rattle.std.proofs.Common.{◌↔◌, ℕ, List, Vec, Global, subst, Contains}
use Rattle.std.specs.Prelude.{IfOk}
use Rattle.kp_signature.specs.Edges.{Reaches, edges_of}
use Rattle.kp_rules.proofs.sort_index.SortIndex.down_from.Goals as goal

pub returns : goal.returns
returns c = subst (λ (edges : List (Vec ℕ Global)). IfOk c.reached_from.result (λ found. (j : ℕ) → Contains found.keys j ↔ Reaches (edges_of edges) c.args.number j)) c.deref.ensures.value c.reached_from.ensures
