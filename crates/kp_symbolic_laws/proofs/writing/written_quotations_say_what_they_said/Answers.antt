use Rattle.std.proofs.Common.{inl}
use Rattle.kp_symbolic_laws.proofs.WrittenUnder.{written_says}
use Rattle.kp_symbolic_laws.proofs.writing.written_quotations_say_what_they_said.Goals as goal

pub returns : goal.returns
returns c g rs v sort p inj predicate sound placed given room = written_says g rs v p (inl inj) (record { predicate = predicate; sound = sound; placed = placed; given = given }) room
