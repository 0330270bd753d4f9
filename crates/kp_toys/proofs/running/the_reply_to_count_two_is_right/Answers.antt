use Rattle.kp_toys.proofs.Replied.{right_reply, right_at_bound}
use Rattle.kp_toys.proofs.running.the_reply_to_count_two_is_right.Goals as goal

pub returns-clause-stuck : goal.returns-clause-stuck
returns-clause-stuck c = right_reply

pub returns-clause-bound : goal.returns-clause-bound
returns-clause-bound c = right_at_bound
