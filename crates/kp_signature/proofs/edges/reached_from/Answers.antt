use Rattle.kp_signature.specs.Edges.{edges_of}
use Rattle.kp_signature.proofs.EdgeLemmas.{from_one}
use Rattle.kp_signature.proofs.edges.reached_from.Goals as goal

pub returns : goal.returns
returns c j =
    let one = from_one (edges_of c.args.edges.now) c.new-found.result.keys c.add.new.found.keys c.args.number c.new-found.ensures.len c.in_ok-add.ensures j in
    let all = c.in_ok-close.ensures j in
    (λ h. one.0 (all.0 h), λ r. all.1 (one.1 r))
