use Rattle.kp_kore.proofs.Ended.{vacuous_reply}
use Rattle.kp_kore.proofs.reply_laws.a_vacuous_reply_makes_a_vacuous_node.Goals as goal

pub returns : goal.returns
returns c = vacuous_reply
