-- Why a state isn't written.
use Rattle.std.specs.Prelude.{◌≡◌, List, Option, Some, None, ⊤}
use Rattle.std.specs.List.{AllByRecursion}
use Rattle.kp_kore.specs.Syntax.{KorePattern}
use Rattle.kp_kore.specs.Signature.{KoreSignature}
use Rattle.kp_symbolic.specs.States.{Literal}
use Rattle.kp_symbolic.specs.Writing.{InjectsWhereItStands}
use Rattle.kp_symbolic.specs.View.{literal_view}
use Rattle.kp_symbolic.specs.declared.clause.Clause.{Clause}
use Rattle.kp_outward.specs.Parts.{IsFaultlessAtom}
use Rattle.kp_outward.specs.declared.error.WritingError.{WritingError}
use Rattle.kp_outward.specs.declared.error.WritingError.TheVariants.{NoInjection, Shape}

-- the signature has no inj
abbrev pub IsNoInjection : WritingError → Type 0
IsNoInjection e = e ≡ NoInjection

-- a number in a predicate can't be read
abbrev pub IsUnread : WritingError → Type 0
IsUnread e = e ≡ Shape

-- no predicate that isn't opened has a verify fault
abbrev pub AreFaultless : KoreSignature → List (List Literal) → Type 0
AreFaultless g = AllByRecursion (AllByRecursion (λ l. IsFaultlessAtom g l.atom))

-- the same of the code's clauses
abbrev pub AreFaultlessIn : KoreSignature → List Clause → Type 0
AreFaultlessIn g = AllByRecursion (λ c. AllByRecursion (λ l. IsFaultlessAtom g (literal_view l).atom) c.literals.value.items)

-- inj is what it should be in the pattern that is written, if there is one
abbrev pub InjectsIfThere : KoreSignature → Option KorePattern → Type 0
InjectsIfThere g None = ⊤
InjectsIfThere g (Some p) = InjectsWhereItStands g p
