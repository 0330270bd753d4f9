use Rattle.clap.specs.Simple.{with_subcommand}
use Rattle.kp_command.specs.Described.{prove_app, stdio_app, top_app}
use Rattle.kp_command.proofs.DescribedCommands.{last_command}
use Rattle.kp_command.proofs.described.command_line.Goals as goal

pub returns : goal.returns
returns c = last_command c.subcommand.result c.in_ok-line.line c.in_ok-prove.prove (with_subcommand top_app stdio_app.top) prove_app c.subcommand.ensures c.in_ok-prove.ensures.local c.in_ok-line.ensures c.in_ok-prove.ensures.app
