use Rattle.kp_symbolic_laws.proofs.WrittenVariables.{written_of_these, state_of_these}
use Rattle.kp_symbolic_laws.proofs.writing.written_clauses_have_their_variables.Goals as goal

pub returns-clause-clause : goal.returns-clause-clause
returns-clause-clause c = written_of_these

pub returns-clause-state : goal.returns-clause-state
returns-clause-state c = state_of_these
