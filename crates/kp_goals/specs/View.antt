-- Which consequents, and what is given, the code's are.
use Rattle.std.specs.Prelude.{◌≡◌, ◌&&◌, not, is_some, List, [], ◌∷◌, ◌++◌, map, Option, Some, None, if◌then◌else◌}
use Rattle.std.specs.Option.{option_map}
use Rattle.kp_kore.specs.Syntax.{KorePattern}
use Rattle.kp_kore.specs.Parts.{SortedName}
use Rattle.kp_kore.specs.Signature.{KoreSignature}
use Rattle.kp_kore.specs.Instance.{is_named}
use Rattle.kp_compile.specs.Parts.{seen}
use Rattle.kp_symbolic.specs.Folding.{folded}
use Rattle.kp_symbolic.specs.Solving.{Equation}
use Rattle.kp_symbolic.specs.States.{Literal, SymbolicState}
use Rattle.kp_symbolic.specs.Terms.{Replaced, replacement_for}
use Rattle.kp_symbolic.specs.declared.atom.Replaced as code
use Rattle.kp_symbolic.specs.View.{term_view, variables_view, clauses_view, replaced_view}
use Rattle.kp_goals.specs.Consequents as consequents
use Rattle.kp_goals.specs.Gives as gives
use Rattle.kp_goals.specs.Gives.{given_by, given_in, if_new, put_for}
use Rattle.kp_case_laws.specs.Parts.{StatePart, whole}
use Rattle.kp_goals.specs.Goals.{IsGiven, IsAskedIn}
use Rattle.kp_goals.specs.declared.consequent.Consequent.{Consequent}
use Rattle.kp_goals.specs.declared.given.Given.{Given}

abbrev pub consequent_view : Consequent → consequents.Consequent
consequent_view k = record { term = term_view k.term; predicates = seen k.predicates.items; bound = variables_view k.bound.items }

-- of a term and predicates, with these variables bound
abbrev pub consequent_with : KoreSignature → KorePattern × List KorePattern → List SortedName → consequents.Consequent
consequent_with g side bound = record { term = folded g [] side.0; predicates = side.1; bound = bound }

abbrev pub given_view : Given → gives.Given
given_view o = record { rest = clauses_view o.rest.items; put = map replaced_view o.put.items }

-- the term of an equation in its variable's place
abbrev pub one_put : Equation → Replaced
one_put e = record { name = e.variable.name; term = e.term }

-- what the code found that is given, if anything is
abbrev pub given_seen : Option code.Replaced → Option Replaced
given_seen = option_map replaced_view

abbrev pub put_of : Option Equation → Option Replaced
put_of = option_map one_put

-- it is for one of these variables, and nothing was put for that before
abbrev pub new_put : List SortedName → List Replaced → Option Replaced → Option Replaced
new_put told put (Some r) = if not (is_some (replacement_for put r.name)) && is_named r.name told then Some r else None
new_put told put None = None

abbrev pub nothing_given : gives.Given
nothing_given = record { rest = []; put = [] }

-- what the clauses of the match give, one by one
abbrev pub with_given : gives.Given → List Literal → Option Equation → gives.Given
with_given o c (Some e) = record { rest = o.rest; put = o.put ++ put_for e }
with_given o c None = record { rest = o.rest ++ c ∷ []; put = o.put }

abbrev pub with_clause : KoreSignature → List SortedName → List SortedName → gives.Given → List Literal → gives.Given
with_clause g bound told o c = with_given o c (if_new told o.put (given_by g bound c))

abbrev pub with_clauses : KoreSignature → List SortedName → List SortedName → gives.Given → List (List Literal) → gives.Given
with_clauses g bound told o [] = o
with_clauses g bound told o (c ∷ cs) = with_clauses g bound told (with_clause g bound told o c) cs

-- the first that one of the clauses gives
abbrev pub first_put : Option Replaced → Option Replaced → Option Replaced
first_put (Some r) o = Some r
first_put None o = o

abbrev pub first_given : KoreSignature → List SortedName → List SortedName → List Replaced → List (List Literal) → Option Replaced
first_given g bound told put [] = None
first_given g bound told put (c ∷ cs) = first_put (put_of (if_new told put (given_in g bound c))) (first_given g bound told put cs)

-- the part with this state of which what is asked is told
abbrev pub IsGivenIn : KoreSignature → consequents.Consequent → List SortedName → SymbolicState → gives.Given → Type 0
IsGivenIn g k told s o = IsGiven g k told (whole s) o

abbrev pub IsAskedOf : KoreSignature → consequents.Consequent → List SortedName → SymbolicState → List (List Literal) → Type 0
IsAskedOf g k told s goals = (p : StatePart) → p.state ≡ s → IsAskedIn g k told p goals
