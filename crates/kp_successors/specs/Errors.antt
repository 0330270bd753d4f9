-- What the errors of the parts become.
use Rattle.std.specs.Prelude.{◌≡◌, true, [], ⊤, string_bytes}
use Rattle.kp_kore.specs.Syntax.{Text, KorePattern}
use Rattle.kp_kore.specs.Parts.{free_variables}
use Rattle.kp_kore.specs.Signature.{KoreSignature, injection, meaning_of}
use Rattle.kp_kore.specs.Instance.{Valuation}
use Rattle.kp_kore.specs.Numbers.{computes_wide}
use Rattle.kp_compile.specs.Verified.{IsVerifiedTerm}
use Rattle.kp_ground.specs.declared.evaluate.EvaluationError.{EvaluationError}
use Rattle.kp_ground.specs.declared.evaluate.EvaluationError.TheVariants as evaluating
use Rattle.kp_compile.specs.Spelled.{injection_name}
use Rattle.kp_compile.specs.declared.state_error.SpellingError.{SpellingError}
use Rattle.kp_compile.specs.declared.state_error.SpellingError.TheVariants as spelling
use Rattle.kp_successors.specs.declared.error.GroundError.{GroundError}
use Rattle.kp_successors.specs.declared.error.GroundError.TheVariants.{Memory, Number, Foreign, Unread, NoInjection}

-- no symbol is inj
abbrev pub LacksInjection : KoreSignature → Type 0
LacksInjection g = ¬ (meaning_of g injection_name ≡ injection)

-- G1 only for this cause, NoInjection only where no symbol is inj, and neither G2 nor Unread
abbrev pub IsCausedBy : KoreSignature → Type 0 → GroundError → Type 0
IsCausedBy g Wide Memory = ⊤
IsCausedBy g Wide Number = Wide
IsCausedBy g Wide (Foreign id) = ⊥
IsCausedBy g Wide Unread = ⊥
IsCausedBy g Wide NoInjection = LacksInjection g

-- of an evaluation
abbrev pub IsFromEvaluation : EvaluationError → GroundError → Type 0
IsFromEvaluation evaluating.Number e = e ≡ Number
IsFromEvaluation evaluating.Memory e = e ≡ Memory

-- of a spelling
abbrev pub IsFromSpelling : SpellingError → GroundError → Type 0
IsFromSpelling spelling.Memory e = e ≡ Memory
IsFromSpelling spelling.NoInjection e = e ≡ NoInjection

-- G1 only where a call of the pattern computes a number beyond 128 bits, Unread only where it isn't a verified closed
-- term without foreign symbols; neither G2 nor NoInjection
abbrev pub IsUnvalued : KoreSignature → KorePattern → GroundError → Type 0
IsUnvalued g p Memory = ⊤
IsUnvalued g p Number = (v : Valuation) → computes_wide g v p ≡ true
IsUnvalued g p (Foreign id) = ⊥
IsUnvalued g p Unread = IsVerifiedTerm g p → ¬ (free_variables p ≡ [])
IsUnvalued g p NoInjection = ⊥

-- G2 by the rule of this id
abbrev pub IsForeignBy : Text → GroundError → Type 0
IsForeignBy n Memory = ⊥
IsForeignBy n Number = ⊥
IsForeignBy n (Foreign id) = string_bytes id ≡ n
IsForeignBy n Unread = ⊥
IsForeignBy n NoInjection = ⊥
