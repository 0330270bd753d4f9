-- Clauses that stay one literal for their size, and are written as predicates.
-- Source: this project.
use Rattle.std.specs.Prelude.{List}
use Rattle.kp_kore.specs.Syntax.{KoreSort}
use Rattle.kp_kore.specs.Signature.{KoreSignature}
use Rattle.kp_symbolic.specs.States.{Literal, SymbolicState}
use Rattle.kp_symbolic.specs.Writing.{InjectsWhereItStands, written_clause}
use Rattle.kp_symbolic_laws.specs.Runs.{HasRoomClause}

-- what is written for the clause at a sort has new names where they are wanted, and inj only where it is what it should be
abbrev pub CanBeWrittenAt : KoreSignature → KoreSort → List Literal → Type 0
CanBeWrittenAt g sort c = HasRoomClause g c × InjectsWhereItStands g (written_clause g sort c)

-- the same of a clause in a state
abbrev pub CanBeWritten : KoreSignature → SymbolicState → List Literal → Type 0
CanBeWritten g s = CanBeWrittenAt g s.sort
