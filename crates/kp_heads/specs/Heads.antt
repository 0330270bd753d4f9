-- Which sorts have a value, and which heads.
-- Source: matching logic's models, as K reads constructors (each value is built from constructors, no junk).
use Rattle.std.specs.Prelude.{◌≡◌}
use Rattle.kp_kore.specs.Syntax.{KoreSort}
use Rattle.kp_kore.specs.Signature.{KoreSignature, Head}
use Rattle.kp_kore.specs.Value.{Value, HasSort, head_of}
use Rattle.kp_kore.specs.Sorted.{IsSorted}

-- some value has the sort
abbrev pub HasValue : KoreSignature → KoreSort → Type 0
HasValue g s = (u : Value) × HasSort g s u

-- some value of some sort has the head
abbrev pub IsLive : KoreSignature → Head → Type 0
IsLive g h = (u : Value) × IsSorted g u × (head_of u ≡ h)
