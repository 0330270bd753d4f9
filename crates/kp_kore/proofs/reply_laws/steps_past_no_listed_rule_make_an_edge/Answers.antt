use Rattle.kp_kore.proofs.Ended.{steps_edge}
use Rattle.kp_kore.proofs.reply_laws.steps_past_no_listed_rule_make_an_edge.Goals as goal

pub returns : goal.returns
returns c = steps_edge
