use Rattle.kp_examples.proofs.SquareCauses.{sq_shown, sq_reply, plain_not_shown, no_weight}
use Rattle.kp_examples.proofs.causes.a_run_shows_what_its_rule_asks.Goals as goal

pub returns-clause-shown : goal.returns-clause-shown
returns-clause-shown c = sq_shown

pub returns-clause-reply : goal.returns-clause-reply
returns-clause-reply c = sq_reply

pub returns-clause-not_plain : goal.returns-clause-not_plain
returns-clause-not_plain c = plain_not_shown

pub returns-clause-not_opposed : goal.returns-clause-not_opposed
returns-clause-not_opposed c = no_weight
