use Rattle.std.proofs.Common.{map}
use Rattle.kp_kore.specs.View.{sort_view}
use Rattle.kp_signature.specs.View.{signature_view}
use Rattle.kp_heads.proofs.Literals.{LiteralsBefore}
use Rattle.kp_heads.proofs.table.literal_numbers.Given as goal

abbrev pub invariant-loop-number : goal.invariant-loop-number
invariant-loop-number l = LiteralsBefore (signature_view l.signature) (map sort_view l.sorts) l.number l.found.keys
