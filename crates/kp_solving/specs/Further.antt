-- A state with further clauses, and a state in which a variable is a term.
-- Source: the K Haskell backend's constrained terms; narrowing of a variable by a term.
use Rattle.std.specs.Prelude.{List, [], ◌∷◌, ◌++◌, length, true}
use Rattle.kp_kore.specs.Parts.{SortedName}
use Rattle.kp_kore.specs.Signature.{KoreSignature}
use Rattle.kp_symbolic.specs.Terms.{SymbolicTerm, unknown}
use Rattle.kp_symbolic.specs.States.{same, Literal, SymbolicState}
use Rattle.kp_symbolic.specs.Clauses.{without_repeats}
use Rattle.kp_symbolic.specs.Solving.{Equation, solved_at}

-- nothing more is solved than was
abbrev pub constrained : SymbolicState → List (List Literal) → SymbolicState
constrained s cs = record { term = s.term; sort = s.sort; clauses = without_repeats (s.clauses ++ cs); variables = s.variables }

abbrev pub equation_of : SortedName → SymbolicTerm → Equation
equation_of x t = record { variable = x; term = t }

-- the clause that the variable is the term
abbrev pub equality_clause : Equation → List Literal
equality_clause e = record { holds = true; atom = same e.variable.sort (unknown e.variable) e.term } ∷ []

-- with that clause behind the others, and new variables behind those at hand
abbrev pub with_equality : Equation → List SortedName → SymbolicState → SymbolicState
with_equality e new s = record { term = s.term; sort = s.sort; clauses = s.clauses ++ equality_clause e ∷ []; variables = s.variables ++ new }

-- and the term in the variable's place everywhere else
abbrev pub refined : KoreSignature → Equation → List SortedName → SymbolicState → SymbolicState
refined g e new s = solved_at g (record { place = length s.clauses; equation = e }) (with_equality e new s)
