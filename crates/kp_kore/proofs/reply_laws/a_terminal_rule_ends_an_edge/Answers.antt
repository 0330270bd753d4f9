use Rattle.kp_kore.proofs.Ended.{terminal_edge}
use Rattle.kp_kore.proofs.reply_laws.a_terminal_rule_ends_an_edge.Goals as goal

pub returns : goal.returns
returns c = terminal_edge
