-- A literal with what it says.
use Rattle.std.specs.Prelude.{Option}
use Rattle.kp_symbolic.specs.States.{Literal}
use Rattle.kp_symbolic.specs.Plain.{Form, ReadLiteral}

abbrev pub read_literal : Literal → Option Form → ReadLiteral
read_literal l f = record { literal = l; form = f }
