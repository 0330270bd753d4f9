-- Values that have a sort.
use Rattle.kp_kore.specs.Syntax.{KoreSort}
use Rattle.kp_kore.specs.Signature.{KoreSignature}
use Rattle.kp_kore.specs.Value.{Value, HasSort}

-- the value has some sort
abbrev pub IsSorted : KoreSignature → Value → Type 0
IsSorted g u = (s : KoreSort) × HasSort g s u
