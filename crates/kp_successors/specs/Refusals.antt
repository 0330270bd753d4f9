-- When the successors of a configuration aren't told, and why.
use Rattle.std.specs.Prelude.{◌⊎◌, string_bytes, ⊤}
use Rattle.kp_kore.specs.Syntax.{KorePattern}
use Rattle.kp_kore.specs.Value.{Value}
use Rattle.kp_kore.specs.Theory.{Theory}
use Rattle.kp_kore.specs.Steps.{AnyByRecursion, HasTurn}
use Rattle.kp_compile.specs.Verified.{IsVerifiedTerm}
use Rattle.kp_run.specs.Causes.{HasWideCondition}
use Rattle.kp_run.specs.Runs.{IsFirstUnknown}
use Rattle.kp_successors.specs.Errors.{LacksInjection}
use Rattle.kp_successors.specs.Successors.{HasWidePart, IsTooWide}
use Rattle.kp_successors.specs.declared.error.GroundError.{GroundError}
use Rattle.kp_successors.specs.declared.error.GroundError.TheVariants.{Memory, Number, Foreign, Unread, NoInjection}

-- a condition or a right term computes a number beyond 128 bits
abbrev pub HasWideRule : Theory → Value → Type 0
HasWideRule t c =
    AnyByRecursion (λ r. HasWideCondition t.signature c r.body) t.rules
    ⊎ AnyByRecursion (λ r. HasTurn t r c × HasWidePart t.signature c r.body) t.rules

-- G1 only where some number is beyond 128 bits; G2 only where none is, with the id of the foreign rule that goes first of
-- those that might rewrite the configuration; Unread only where the pattern isn't a verified term
-- without foreign symbols; NoInjection only where no symbol is inj
abbrev pub IsRefusedFor : Theory → KorePattern → Value → GroundError → Type 0
IsRefusedFor t p c Memory = ⊤
IsRefusedFor t p c Number = IsTooWide t p c
IsRefusedFor t p c (Foreign id) = (¬ IsTooWide t p c) × IsFirstUnknown t c (string_bytes id)
IsRefusedFor t p c Unread = ¬ IsVerifiedTerm t.signature p
IsRefusedFor t p c NoInjection = LacksInjection t.signature
