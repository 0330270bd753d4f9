use Rattle.kp_symbolic.proofs.Written.{equality_is_said, clause_said, clauses_said}
use Rattle.kp_symbolic.proofs.laws.written_clauses_say_what_they_said.Goals as goal

pub returns-clause-equalities : goal.returns-clause-equalities
returns-clause-equalities c = equality_is_said

pub returns-clause-clause : goal.returns-clause-clause
returns-clause-clause c = clause_said

pub returns-clause-clauses : goal.returns-clause-clauses
returns-clause-clauses c = clauses_said
