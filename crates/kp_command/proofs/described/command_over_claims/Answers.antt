use Rattle.std.proofs.Common.{◌≡◌, codes, rules}
use Rattle.clap.specs.Walk.{rule_of}
use Rattle.clap.specs.Simple.{app_of}
use Rattle.kp_command.specs.Described.{app_over_module, wanted}
use Rattle.kp_command.proofs.DescribedCommands.{last_added, last_local}
use Rattle.kp_command.proofs.described.command_over_claims.Goals as goal

pub returns-clause-app : goal.returns-clause-app
returns-clause-app c =
    let argument_is : rule_of c.wanted_argument.result ≡ wanted (codes "claims") = search rules in
    let command_is : app_of c.in_ok-command.command ≡ app_over_module (codes "prove") = search rules in
    last_added c.arg.result c.in_ok-command.command c.wanted_argument.result _ _ c.arg.ensures c.wanted_argument.ensures.local command_is argument_is

pub returns-clause-local : goal.returns-clause-local
returns-clause-local c = last_local c.arg.result c.in_ok-command.command c.wanted_argument.result c.arg.ensures c.wanted_argument.ensures.local c.in_ok-command.ensures.local
