use Rattle.std.proofs.Common.{arith}
use Rattle.kp_signature.proofs.Marks.{no_text_with_sorts, no_text_of_others}
use Rattle.kp_signature.proofs.attributes.text_marked.Goals as goal

pub returns-then-sorts-gt0 : goal.returns-then-sorts-gt0
returns-then-sorts-gt0 c = no_text_with_sorts c.args.name.now c.args.symbol.now c.args.sorts.now c.args.arguments.now (omega arith)

pub returns-then-arguments-ne1 : goal.returns-then-arguments-ne1
returns-then-arguments-ne1 c = no_text_of_others c.args.name.now c.args.symbol.now c.args.sorts.now c.args.arguments.now (omega arith)
