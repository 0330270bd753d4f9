use Rattle.kp_literals.proofs.LengthLemmas.{leading_is}
use Rattle.kp_literals.proofs.bounds.bit_length.Goals as goal

pub returns : goal.returns
returns c = leading_is c.args.number c.ranges.number.fits
