use Rattle.std.proofs.Common.{sym, subst}
use Rattle.kp_kore.specs.View.{view}
use Rattle.kp_text.specs.Spelling.{IsPatternText}
use Rattle.kp_text.specs.Errors.{IsErrorOf}
use Rattle.kp_text.proofs.Tells.{pattern_told, pattern_error}
use Rattle.kp_text.proofs.read.read_pattern.Goals as goal

pub returns-in-Ok-clause-found : goal.returns-in-Ok-clause-found
returns-in-Ok-clause-found c = pattern_told c.args.bytes.now c.front_and_tail-tail.result.0.now c.front_and_tail-tail.result.1 (view c.in-Ok.pattern) c.front_and_tail-tail.ensures.front c.front_and_tail-tail.ensures.tail c.in-Ok.ensures.found

pub returns-in-Err-clause-fault : goal.returns-in-Err-clause-fault
returns-in-Err-clause-fault c = subst (IsErrorOf IsPatternText c.args.bytes.now) (sym c.read_error.ensures) (pattern_error c.args.bytes.now c.front_and_tail-tail.result.0.now c.front_and_tail-tail.result.1 c.in-Err.failure c.front_and_tail-tail.ensures.front c.front_and_tail-tail.ensures.tail c.in-Err.ensures.fault)
