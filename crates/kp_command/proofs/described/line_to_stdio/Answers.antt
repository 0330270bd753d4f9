use Rattle.std.proofs.Common.{◌≡◌, rules}
use Rattle.clap.specs.Simple.{app_of}
use Rattle.kp_command.specs.Described.{stdio_app, top_app}
use Rattle.kp_command.proofs.DescribedCommands.{last_command}
use Rattle.kp_command.proofs.described.line_to_stdio.Goals as goal

pub returns : goal.returns
returns c =
    let stdio_is : app_of c.in_ok-stdio.stdio ≡ stdio_app = search rules in
    last_command c.subcommand.result c.top_command.result c.in_ok-stdio.stdio top_app stdio_app c.subcommand.ensures c.in_ok-stdio.ensures.local c.top_command.ensures stdio_is
