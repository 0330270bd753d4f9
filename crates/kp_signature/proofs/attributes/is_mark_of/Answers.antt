use Rattle.std.proofs.Common.{arith}
use Rattle.kp_signature.proofs.Marks.{no_mark_with_sorts, no_mark_with_arguments}
use Rattle.kp_signature.proofs.attributes.is_mark_of.Goals as goal

pub returns-then-sorts-gt0 : goal.returns-then-sorts-gt0
returns-then-sorts-gt0 c = no_mark_with_sorts c.args.name.now c.args.symbol.now c.args.sorts.now c.args.arguments.now (omega arith)

pub returns-then-arguments-gt0 : goal.returns-then-arguments-gt0
returns-then-arguments-gt0 c = no_mark_with_arguments c.args.name.now c.args.symbol.now c.args.sorts.now c.args.arguments.now (omega arith)
