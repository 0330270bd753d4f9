-- What a pattern with free variables stands for.
-- Source: matching logic (a pattern's instances under the valuations of its free variables).
use Rattle.kp_kore.specs.Syntax.{KorePattern}
use Rattle.kp_kore.specs.Parts.{free_variables}
use Rattle.kp_kore.specs.Signature.{KoreSignature}
use Rattle.kp_kore.specs.Value.{Value}
use Rattle.kp_kore.specs.Instance.{Valuation, GivesSorts, IsInstance}

-- an instance of the pattern, where its free variables stand for values of their sorts
abbrev pub IsSomeInstance : KoreSignature → KorePattern → Value → Type 0
IsSomeInstance g p u = (v : Valuation) × GivesSorts g v (free_variables p) × IsInstance g v p u
