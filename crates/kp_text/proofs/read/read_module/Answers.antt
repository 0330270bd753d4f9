use Rattle.std.proofs.Common.{sym, subst}
use Rattle.kp_kore.specs.View.{module_view}
use Rattle.kp_text.specs.Spelling.{IsModuleText}
use Rattle.kp_text.specs.Errors.{IsErrorOf}
use Rattle.kp_text.proofs.Tells.{module_told, module_error}
use Rattle.kp_text.proofs.read.read_module.Goals as goal

pub returns-in-Ok-clause-found : goal.returns-in-Ok-clause-found
returns-in-Ok-clause-found c = module_told c.args.bytes.now c.front_and_tail-tail.result.0.now c.front_and_tail-tail.result.1 (module_view c.in-Ok.module) c.front_and_tail-tail.ensures.front c.front_and_tail-tail.ensures.tail c.in-Ok.ensures.found

pub returns-in-Err-clause-fault : goal.returns-in-Err-clause-fault
returns-in-Err-clause-fault c = subst (IsErrorOf IsModuleText c.args.bytes.now) (sym c.read_error.ensures) (module_error c.args.bytes.now c.front_and_tail-tail.result.0.now c.front_and_tail-tail.result.1 c.in-Err.failure c.front_and_tail-tail.ensures.front c.front_and_tail-tail.ensures.tail c.in-Err.ensures.fault)
