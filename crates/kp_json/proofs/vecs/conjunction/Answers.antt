use Rattle.std.proofs.Common.{arith}
use Rattle.kp_json.proofs.Lists.{view_of_and}
use Rattle.kp_json.proofs.vecs.conjunction.Goals as goal

pub returns-then-len-gt1 : goal.returns-then-len-gt1
returns-then-len-gt1 c = view_of_and c.args.sort c.args.patterns (omega (arith, c.if-len-gt1.true, c.len.ensures))
