-- The opposite of a literal and of what is written; what is decided of a state.
-- Source: this project.
use Rattle.std.specs.Prelude.{◌≡◌, Bool, false, not, IsTrue, List, [], ◌∷◌}
use Rattle.kp_kore.specs.Syntax.{KoreSort, KorePatterns, conjunction}
use Rattle.kp_kore.specs.Signature.{KoreSignature}
use Rattle.kp_symbolic.specs.States.{quoted, Literal, SymbolicState, CanBeTrue}
use Rattle.kp_symbolic.specs.Plain.{plain_clauses}
use Rattle.kp_symbolic.specs.Verdicts.{Verdict, no_valuation, IsRightVerdict}

abbrev pub opposite_of_literal : Literal → Literal
opposite_of_literal l = record { holds = not l.holds; atom = l.atom }

-- \not of all of these, as one literal
abbrev pub denying_written : KoreSort → KorePatterns → List (List Literal)
denying_written sort ps = (record { holds = false; atom = quoted (conjunction sort ps) [] } ∷ []) ∷ []

-- ---- what is decided

-- the state without the clauses that aren't plain
abbrev pub plain_state : KoreSignature → SymbolicState → SymbolicState
plain_state g s = record { term = s.term; sort = s.sort; clauses = plain_clauses g s; variables = s.variables }

-- a right verdict says something else than that no values make the clauses true
abbrev pub IsNotNone : KoreSignature → SymbolicState → Type 0
IsNotNone g s = (d : Verdict) × IsRightVerdict g s d × ¬ (d ≡ no_valuation)

-- where it is told, no values make them true; where it isn't, a right verdict says something else
abbrev pub TellsNone : KoreSignature → SymbolicState → Bool → Type 0
TellsNone g s b = (IsTrue b → ¬ CanBeTrue g s.variables s.clauses) × (b ≡ false → IsNotNone g s)
