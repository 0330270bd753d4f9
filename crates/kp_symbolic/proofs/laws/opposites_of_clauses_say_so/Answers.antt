use Rattle.kp_symbolic.proofs.Denied.{atom_says, denied_is_opposite}
use Rattle.kp_symbolic.proofs.laws.opposites_of_clauses_say_so.Goals as goal

pub returns-clause-literal : goal.returns-clause-literal
returns-clause-literal c = atom_says

pub returns-clause-clauses : goal.returns-clause-clauses
returns-clause-clauses c = denied_is_opposite
