use Rattle.std.proofs.Common.{subst, List, ℕ}
use Rattle.kp_signature.specs.Edges.{Extended, edges_of}
use Rattle.kp_signature.proofs.EdgeLemmas.{from_all}
use Rattle.kp_signature.proofs.edges.all_reached.Goals as goal

pub returns : goal.returns
returns c j =
    let e = subst (λ (l : List ℕ). Extended c.new-found.result.keys l c.add_all.new.found.keys) c.as_slice.ensures.keys c.in_ok-add_all.ensures in
    let those = from_all (edges_of c.args.edges.now) c.new-found.result.keys c.add_all.new.found.keys c.args.numbers.now.keys c.new-found.ensures.len e j in
    let all = c.in_ok-close.ensures j in
    (λ h. those.0 (all.0 h), λ r. all.1 (those.1 r))
