use Rattle.clap.specs.Simple.{app_of}
use Rattle.kp_command.proofs.ReadCommands.{free_app, kind_of_whole, parsed}
use Rattle.kp_command.proofs.reading.command_of.Goals as goal

pub returns-in-Some-clause-found : goal.returns-in-Some-clause-found
returns-in-Some-clause-found c = parsed (app_of c.in_ok-line.line) _ c.in-Ok.matches c.in-Some.command c.in_ok-line.ensures (c.in-Ok.ensures.kinds (free_app _ c.in_ok-line.ensures)) c.in-Ok.ensures.matches c.in-Some.ensures

pub returns-in-Err-clause-refused : goal.returns-in-Err-clause-refused
returns-in-Err-clause-refused c = c.error_of.ensures _ (kind_of_whole (app_of c.in_ok-line.line) _ c.in-Err.error c.in_ok-line.ensures c.in-Err.ensures.kinds)
