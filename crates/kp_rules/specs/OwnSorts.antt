-- Own sorts of heads.
use Rattle.std.specs.Prelude.{◌≡◌, Option, Some}
use Rattle.kp_kore.specs.Syntax.{KoreSort}
use Rattle.kp_kore.specs.Signature.{KoreSignature, IsBelow}

-- there is such a sort, and it is below the other
abbrev pub IsBelowSome : KoreSignature → Option KoreSort → KoreSort → Type 0
IsBelowSome g o s = (own : KoreSort) × (o ≡ Some own) × IsBelow g.subsorts own s
