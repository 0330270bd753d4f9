-- Patterns that verify finds no fault in.
use Rattle.std.specs.Prelude.{◌≡◌, None}
use Rattle.kp_kore.specs.Syntax.{KorePattern}
use Rattle.kp_kore.specs.Signature.{KoreSignature}
use Rattle.kp_signature.specs.Places.{Place}
use Rattle.kp_signature.specs.Verify.{first_fault}

-- no verify fault where the pattern stands
pub record IsFaultless (g : KoreSignature) (p : KorePattern) : Type 0 where
  pub place : Place
  pub faultless : first_fault g place p ≡ None
