use Rattle.std.proofs.Common.{◌≡◌, ◌∙◌, ap, codes, rules}
use Rattle.clap.specs.Walk.{rule_of}
use Rattle.clap.specs.Simple.{app_of_fields}
use Rattle.clap.specs.declared.builder.command.Command.{Command}
use Rattle.clap.specs.declared.builder.command.Command.TheOpen.{Command-F}
use Rattle.kp_command.specs.Described.{placed}
use Rattle.kp_command.proofs.DescribedCommands.{last_added, last_local}
use Rattle.kp_command.proofs.described.command_over_definition.Goals as goal

pub returns-clause-app : goal.returns-clause-app
returns-clause-app c =
    let definition_is : rule_of c.placed_argument.result ≡ placed (codes "definition") = search rules in
    last_added c.arg.result c.about.result c.placed_argument.result _ _ c.arg.ensures c.placed_argument.ensures.local (ap app_of_fields c.about.ensures ∙ c.new.ensures.app) definition_is

pub returns-clause-local : goal.returns-clause-local
returns-clause-local c = last_local c.arg.result c.about.result c.placed_argument.result c.arg.ensures c.placed_argument.ensures.local (ap (λ (f : Command-F Command). f.has_globals) c.about.ensures ∙ c.new.ensures.local)
