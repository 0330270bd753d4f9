use Rattle.kp_signature.proofs.EdgeLemmas.{inserted}
use Rattle.kp_signature.proofs.edges.add.Goals as goal

pub returns : goal.returns
returns c = inserted c.args.found.now.keys c.insert.new.self.keys c.args.number c.in_ok-insert.ensures.keys
