use Rattle.kp_toys.proofs.CountReplies.{vacuous_count, stuck_count, not_vacuous_later}
use Rattle.kp_toys.proofs.replying.a_state_without_instances_is_vacuous.Goals as goal

pub returns-clause-vacuous : goal.returns-clause-vacuous
returns-clause-vacuous c = vacuous_count

pub returns-clause-not_stuck : goal.returns-clause-not_stuck
returns-clause-not_stuck c = stuck_count

pub returns-clause-not_later : goal.returns-clause-not_later
returns-clause-not_later c = not_vacuous_later
