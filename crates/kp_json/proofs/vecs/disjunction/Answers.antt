use Rattle.std.proofs.Common.{arith}
use Rattle.kp_json.proofs.Lists.{view_of_or}
use Rattle.kp_json.proofs.vecs.disjunction.Goals as goal

pub returns-then-len-gt1 : goal.returns-then-len-gt1
returns-then-len-gt1 c = view_of_or c.args.sort c.args.patterns (omega (arith, c.if-len-gt1.true, c.len.ensures))
