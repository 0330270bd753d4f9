use Rattle.kp_outward.proofs.LawLemmas.{arranged_say, written_say}
use Rattle.kp_outward.proofs.laws.arranged_clauses_say_what_they_said.Goals as goal

pub returns-clause-clauses : goal.returns-clause-clauses
returns-clause-clauses c = arranged_say

pub returns-clause-written : goal.returns-clause-written
returns-clause-written c = written_say
