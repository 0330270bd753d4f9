-- A part in which a variable is a term, and the part that is split off.
-- Source: narrowing; this project.
use Rattle.std.specs.Prelude.{ℕ, false, List, [], ◌∷◌, ◌++◌, if◌then◌else◌}
use Rattle.std.specs.List.{flat_map}
use Rattle.kp_kore.specs.Syntax.{Text}
use Rattle.kp_kore.specs.Parts.{SortedName}
use Rattle.kp_kore.specs.Signature.{KoreSignature}
use Rattle.kp_kore.specs.Value.{constructed, no_values}
use Rattle.kp_symbolic.specs.Terms.{SymbolicTerm, unknown, known}
use Rattle.kp_symbolic.specs.States.{same, Literal, SymbolicState}
use Rattle.kp_symbolic.specs.Clauses.{distributed, is_too_large, without_repeats}
use Rattle.kp_symbolic.specs.Solving.{Equation, opened_clause}
use Rattle.kp_case_laws.specs.Parts.{StatePart, with_clauses}
use Rattle.kp_case_laws.specs.Narrowings.{put_clause, are_never}
use Rattle.kp_case_laws.specs.Courses.{put_in}

abbrev pub equation_of : SortedName → SymbolicTerm → Equation
equation_of x t = record { variable = x; term = t }

-- a clause with the term in the variable's place, opened again; as it stands where that makes too many literals
abbrev pub put_opened : KoreSignature → Equation → List Literal → List (List Literal)
put_opened g e c = if is_too_large 0 (opened_clause g e c) then c ∷ [] else distributed (opened_clause g e c)

-- the term in the variable's place, and clauses that say so behind the others, of new variables
abbrev pub state_with_term : KoreSignature → Equation → List (List Literal) → List SortedName → SymbolicState → SymbolicState
state_with_term g e is new s = record {
  term = put_in g e s.term;
  sort = s.sort;
  clauses = without_repeats (flat_map (put_clause g e) s.clauses ++ is);
  variables = s.variables ++ new;
}

-- a part, and the number from which on no name of its variables is a new one's
pub record NumberedPart : Type 0 where
  pub part : StatePart
  pub next : ℕ

-- with the part in which these clauses are true behind the others; none, where they never are
abbrev pub with_split : NumberedPart → List (List Literal) → List NumberedPart → List NumberedPart
with_split p others apart = if are_never others then apart else apart ++ record { part = with_clauses p.part others; next = p.next } ∷ []

-- the variable isn't the constructor's only value
abbrev pub another : SortedName → Text → List (List Literal)
another x c = (record { holds = false; atom = same x.sort (unknown x) (known (constructed c no_values)) } ∷ []) ∷ []
