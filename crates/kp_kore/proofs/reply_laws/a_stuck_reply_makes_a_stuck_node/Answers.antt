use Rattle.kp_kore.proofs.Ended.{stuck_reply, stuck_in_main}
use Rattle.kp_kore.proofs.reply_laws.a_stuck_reply_makes_a_stuck_node.Goals as goal

pub returns-clause-stuck : goal.returns-clause-stuck
returns-clause-stuck c = stuck_reply

pub returns-clause-in_main : goal.returns-clause-in_main
returns-clause-in_main c = stuck_in_main
