-- States that are refused for want of memory alone.
use Rattle.std.specs.Prelude.{List}
use Rattle.std.specs.List.{AllByRecursion}
use Rattle.kp_kore.specs.Signature.{KoreSignature}
use Rattle.kp_symbolic.specs.Folding.{AreWritten}
use Rattle.kp_symbolic.specs.States.{Literal, SymbolicState}
use Rattle.kp_symbolic.specs.Writing.{written_clause}
use Rattle.kp_symbolic.specs.Faultless.{IsFaultless}
use Rattle.kp_clause_substitution.specs.Sums.{HasWrittenSums}
use Rattle.kp_outward.specs.Parts.{IsFaultlessAtom}

-- each sum in the state can be written, and no predicate that isn't opened has a verify fault
pub record IsReadable (g : KoreSignature) (s : SymbolicState) : Type 0 where
  pub term : AreWritten g s.term
  pub sums : AllByRecursion (AllByRecursion (λ l. HasWrittenSums g l.atom)) s.clauses
  pub faultless : AllByRecursion (AllByRecursion (λ l. IsFaultlessAtom g l.atom)) s.clauses

-- what is written for a clause of the state has no verify fault
abbrev pub IsWrittenFaultless : KoreSignature → SymbolicState → List Literal → Type 0
IsWrittenFaultless g s c = IsFaultless g (written_clause g s.sort c)
