-- Values that aren't built.
-- Source: the K framework's Kore language (domain values).
use Rattle.std.specs.Prelude.{⊤}
use Rattle.kp_kore.specs.Value.{Value, whole, truth, token, constructed}

-- a whole number, a truth value or a token
abbrev pub IsLiteral : Value → Type 0
IsLiteral (whole n) = ⊤
IsLiteral (truth b) = ⊤
IsLiteral (token s x) = ⊤
IsLiteral (constructed c us) = ⊥
