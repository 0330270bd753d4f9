-- Calls that compute a number beyond signed 128 bits, which no state can hold.
-- Source: this project.
use Rattle.std.specs.Prelude.{Bool, false, ◌&&◌}
use Rattle.std.specs.List.{list_any}
use Rattle.kp_kore.specs.Syntax.{KorePattern, application}
use Rattle.kp_kore.specs.Parts.{subpatterns}
use Rattle.kp_kore.specs.Signature.{KoreSignature, meaning_of}
use Rattle.kp_kore.specs.Instance.{Valuation, instance}
use Rattle.kp_kore.specs.Foreign.{is_interpretation}
use Rattle.kp_kore.specs.Replies.{is_wide_value}

-- a call of an interpreted symbol whose value leaves signed 128 bits
abbrev pub is_wide_call : KoreSignature → Valuation → KorePattern → Bool
is_wide_call g v (application f ss ps) = is_interpretation (meaning_of g f) && is_wide_value (instance g v (application f ss ps))
is_wide_call g v _ = false

-- some part of the pattern, wherever it stands, is such a call
abbrev pub computes_wide : KoreSignature → Valuation → KorePattern → Bool
computes_wide g v p = list_any (is_wide_call g v) (subpatterns p)
