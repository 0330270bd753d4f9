-- Parts of a state that a step goes on with.
-- Source: this project.
use Rattle.std.specs.Prelude.{◌≡◌, ℕ, List}
use Rattle.kp_kore.specs.Syntax.{Text}
use Rattle.kp_kore.specs.Signature.{KoreSignature}
use Rattle.kp_symbolic.specs.States.{SymbolicState}
use Rattle.kp_case_laws.specs.Parts.{whole}
use Rattle.kp_unify.specs.Narrowed.{NumberedPart}
use Rattle.kp_step.specs.ReadyParts.{IsReadyPart, HasInstance}

-- a rule can be tried on the whole state, whose names are in use below the next one
abbrev pub IsReadyState : KoreSignature → List Text → SymbolicState → ℕ → Type 0
IsReadyState g used s next = IsReadyPart g used (record { part = whole s; next = next })

-- the whole of a state that has an instance, to go on with
pub record IsWholeReady (g : KoreSignature) (used : List Text) (s : SymbolicState) (q : NumberedPart) : Type 0 where
  pub is : q.part ≡ whole s
  pub ready : IsReadyPart g used q
  pub instance : HasInstance g (whole s)
