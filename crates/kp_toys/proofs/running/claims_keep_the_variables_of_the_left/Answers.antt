use Rattle.kp_toys.proofs.Claimed.{back_somewhere_holds, not_back_to_start}
use Rattle.kp_toys.proofs.running.claims_keep_the_variables_of_the_left.Goals as goal

pub returns-clause-somewhere : goal.returns-clause-somewhere
returns-clause-somewhere c = back_somewhere_holds

pub returns-clause-start : goal.returns-clause-start
returns-clause-start c = not_back_to_start
