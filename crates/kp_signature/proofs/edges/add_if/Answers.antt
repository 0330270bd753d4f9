use Rattle.std.proofs.Common.{rules}
use Rattle.kp_signature.proofs.EdgeLemmas.{not_added, one_added}
use Rattle.kp_signature.proofs.edges.add_if.Goals as goal

pub returns-then-not-passes : goal.returns-then-not-passes
returns-then-not-passes c = not_added c.args.found.now.keys c.args.number c.args.passes (search rules)

pub returns : goal.returns
returns c = one_added c.args.found.now.keys c.add.new.found.keys c.args.number c.args.passes (search rules) c.in_ok-add.ensures
