use Rattle.kp_step.proofs.FirstLemmas.{told_first}
use Rattle.kp_step.proofs.foreign.undecided_rule.Goals as goal

pub returns-in-Some : goal.returns-in-Some
returns-in-Some c t used s first = told_first t s c.args.opened.items c.first_undecided.result c.in-Some.field-0 c.in-Some.is c.first_undecided.ensures first
