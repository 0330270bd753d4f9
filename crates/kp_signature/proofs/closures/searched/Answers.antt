use Rattle.std.proofs.Common.{ℕ, ◌↔◌, List, sym, subst, Contains}
use Rattle.kp_signature.specs.Edges.{Reaches, edges_of}
use Rattle.kp_signature.proofs.SpanLemmas.{both_ways}
use Rattle.kp_signature.proofs.closures.searched.Goals as goal

pub returns : goal.returns
returns c j =
    both_ways (c.in_ok-spans_among.ensures j)
    (subst (λ (l : List ℕ). Contains l j ↔ Reaches (edges_of c.args.edges.now) c.args.number j) (sym c.as_slice.ensures.keys) (c.in_ok-found.ensures j))
