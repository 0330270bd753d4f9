use Rattle.std.proofs.Common.{inl}
use Rattle.kp_symbolic_laws.proofs.WrittenStates.{clause_says, clauses_say, state_says}
use Rattle.kp_symbolic_laws.proofs.writing.written_clauses_say_what_their_literals_say.Goals as goal

pub returns-clause-clause : goal.returns-clause-clause
returns-clause-clause c = clause_says

pub returns-clause-clauses : goal.returns-clause-clauses
returns-clause-clauses c g v s inj gives sorted right = clauses_say g v s (inl inj) gives sorted right

pub returns-clause-state : goal.returns-clause-state
returns-clause-state c = state_says
