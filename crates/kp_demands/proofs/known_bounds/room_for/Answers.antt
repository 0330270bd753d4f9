use Rattle.std.proofs.Common.{rules, arith}
use Rattle.kp_demands.proofs.known_bounds.room_for.Goals as goal

pub returns-then-has_bits : goal.returns-then-has_bits
returns-then-has_bits c = λ _. (78, omega arith, omega arith, c.has_bits.ensures (search rules))
