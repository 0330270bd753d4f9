use Rattle.std.proofs.Common.{ap, string_bytes}
use Rattle.kp_additions.specs.Told.{failure_told}
use Rattle.kp_replies.specs.Failures.{bad_module, duplicate}
use Rattle.kp_replies.specs.View.{addition_view}
use Rattle.kp_service.proofs.added.unless_memory.Goals as goal

pub returns-in-Bad : goal.returns-in-Bad
returns-in-Bad c = (bad_module (addition_view c.in-Bad._fault), ap failure_told c.in-Bad.is)

pub returns-in-Duplicate : goal.returns-in-Duplicate
returns-in-Duplicate c = (duplicate c.in-Duplicate.entry (string_bytes c.in-Duplicate.name), ap failure_told c.in-Duplicate.is)
