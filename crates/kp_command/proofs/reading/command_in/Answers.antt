use Rattle.std.proofs.Common.{subst}
use Rattle.std.specs.Prelude.{IfSome}
use Rattle.clap.specs.declared.parser.matches.ArgMatches.TheViews.{out-ArgMatches}
use Rattle.kp_command.specs.Commands.{IsReadAs}
use Rattle.kp_command.specs.Words.{Read}
use Rattle.kp_command.proofs.ReadCommands.{named_rows}
use Rattle.kp_command.proofs.reading.command_in.Goals as goal

pub returns-in-Some : goal.returns-in-Some
returns-in-Some c = subst (λ (r : Read). IfSome c.command_named.result (IsReadAs r)) (named_rows (out-ArgMatches c.args.matches.now).subcommand _ _ c.in-Some.ensures.name c.in-Some.ensures.rows) c.command_named.ensures
