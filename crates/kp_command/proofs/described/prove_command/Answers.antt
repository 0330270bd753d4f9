use Rattle.kp_command.proofs.DescribedCommands.{last_added, last_local}
use Rattle.kp_command.proofs.described.prove_command.Goals as goal

pub returns-clause-app : goal.returns-clause-app
returns-clause-app c = last_added c.arg.result c.in_ok-command.command c.depth_argument.result _ _ c.arg.ensures c.depth_argument.ensures.local c.in_ok-command.ensures.app c.depth_argument.ensures.rule

pub returns-clause-local : goal.returns-clause-local
returns-clause-local c = last_local c.arg.result c.in_ok-command.command c.depth_argument.result c.arg.ensures c.depth_argument.ensures.local c.in_ok-command.ensures.local
