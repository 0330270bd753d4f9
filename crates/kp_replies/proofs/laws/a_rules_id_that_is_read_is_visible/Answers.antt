use Rattle.kp_replies.proofs.Methods.{told_ids}
use Rattle.kp_replies.proofs.laws.a_rules_id_that_is_read_is_visible.Goals as goal

pub returns : goal.returns
returns c = told_ids
