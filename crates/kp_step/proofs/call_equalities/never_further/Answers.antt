use Rattle.kp_satisfiability.proofs.Answered.{if_ok}
use Rattle.kp_step.proofs.ImpliedLemmas.{never_through}
use Rattle.kp_step.proofs.call_equalities.never_further.Goals as goal

pub returns : goal.returns
returns c = never_through c.args.setting c.args.state c.in_ok-all.all c.is_empty.result c.in_ok-all.ensures (if_ok c.is_empty.result _ _ (λ b told sorted. (told sorted).0) c.is_empty.ensures)
