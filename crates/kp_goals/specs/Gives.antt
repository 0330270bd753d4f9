-- What the bound variables of a consequent may stand for in a part of the antecedent: what they are matched with, and what the
-- consequent asks them to be.
-- Source: matching (terms in the place of a pattern's variables); equations of variables by substitution; this project.
use Rattle.std.specs.Prelude.{ℤ, pos, neg_ℤ, ◌+ℤ◌, Bool, true, not, ◌&&◌, List, [], ◌∷◌, Option, Some, None, is_some, if◌then◌else◌}
use Rattle.std.specs.Ordering.{int_eq}
use Rattle.std.specs.List.{list_any, flat_map}
use Rattle.kp_kore.specs.Parts.{SortedName}
use Rattle.kp_kore.specs.Signature.{KoreSignature}
use Rattle.kp_kore.specs.Value.{whole}
use Rattle.kp_kore.specs.Limits.{fits_number}
use Rattle.kp_kore.specs.Instance.{is_named}
use Rattle.kp_symbolic.specs.Terms.{SymbolicTerm, unknown, offset, known, term_variables, Replaced, replacement_for}
use Rattle.kp_symbolic.specs.Folding.{Sum, sum_of, can_be_added}
use Rattle.kp_symbolic.specs.States.{Atom, same, Literal, SymbolicState}
use Rattle.kp_symbolic.specs.Solving.{Equation, equation_of, first_equation}
use Rattle.kp_symbolic.specs.WellFormed.{term_sort, is_sort_below}
use Rattle.kp_symbolic.specs.Plain.{gives, ReadLiteral, read_clauses}
use Rattle.kp_case_laws.specs.Parts.{StatePart}
use Rattle.kp_case_laws.specs.Courses.{Equality, equality_clauses}
use Rattle.kp_goals.specs.Consequents.{Consequent}

-- ---- equations of bound variables

-- one of these variables stands in the term
abbrev pub has_bound : List SortedName → SymbolicTerm → Bool
has_bound bound t = list_any (λ x. is_named x.name bound) (term_variables t)

-- the bound variable is a term without bound variables, whose own sort is the variable's or below it
abbrev pub bound_if : KoreSignature → List SortedName → SortedName → SymbolicTerm → Option Equation
bound_if g bound x t = if is_named x.name bound && (not (has_bound bound t) && is_sort_below g (term_sort g t) x.sort) then Some (record { variable = x; term = t }) else None

-- the number or the sum with the constant added, where that can be written
abbrev pub summed_of : KoreSignature → SortedName → ℤ → Option SymbolicTerm
summed_of g x n = if int_eq n (pos 0) then Some (unknown x) else if can_be_added g n then Some (offset x n) else None

abbrev pub of_sum : KoreSignature → ℤ → Option Sum → Option SymbolicTerm
of_sum g c (Some s) = summed_of g s.variable (s.constant +ℤ c)
of_sum g c None = None

abbrev pub number_with : ℤ → ℤ → Option SymbolicTerm
number_with n c = if fits_number (n +ℤ c) then Some (known (whole (n +ℤ c))) else None

abbrev pub shifted : KoreSignature → ℤ → SymbolicTerm → Option SymbolicTerm
shifted g c (known (whole n)) = number_with n c
shifted g c t = of_sum g c (sum_of g t)

abbrev pub bound_at : KoreSignature → List SortedName → SortedName → Option SymbolicTerm → Option Equation
bound_at g bound x (Some t) = bound_if g bound x t
bound_at g bound x None = None

-- of two sides the one is the bound variable, alone or with a constant added
abbrev pub bound_side : KoreSignature → List SortedName → SymbolicTerm → SymbolicTerm → Option Equation
bound_side g bound (unknown x) t = bound_if g bound x t
bound_side g bound (offset x c) t = bound_at g bound x (shifted g (neg_ℤ c) t)
bound_side g bound u t = None

-- a clause that is one equality gives a bound variable
abbrev pub given_by : KoreSignature → List SortedName → List Literal → Option Equation
given_by g bound (l ∷ []) = of_atom l.holds l.atom
  where
    of_atom : Bool → Atom → Option Equation
    of_atom true (same s t u) = first_equation (bound_side g bound u t) (bound_side g bound t u)
    of_atom b a = None
given_by g bound c = None

-- an equation that is solved in a condition, for a bound variable
abbrev pub bound_equation : KoreSignature → List SortedName → Option Equation → Option Equation
bound_equation g bound (Some e) = bound_if g bound e.variable e.term
bound_equation g bound None = None

abbrev pub given_in : KoreSignature → List SortedName → List Literal → Option Equation
given_in g bound c = first_equation (given_by g bound c) (bound_equation g bound (equation_of g c))

-- ---- what a part tells of its own variables

abbrev pub solved_of : Option Rattle.kp_symbolic.specs.Plain.Form → List Replaced
solved_of (Some (gives e)) = record { name = e.variable.name; term = e.term } ∷ []
solved_of f = []

abbrev pub solved_by : List ReadLiteral → List Replaced
solved_by (l ∷ []) = solved_of l.form
solved_by c = []

-- the terms of its solved equations
abbrev pub solved_in : KoreSignature → SymbolicState → List Replaced
solved_in g s = flat_map solved_by (read_clauses g s)

-- ---- what the match asks, and what is given

-- the part's term is the consequent's
abbrev pub the_equality : Consequent → StatePart → Equality
the_equality k p = record { sort = p.state.sort; left = p.state.term; right = k.term }

abbrev pub match_clauses : KoreSignature → Consequent → StatePart → List (List Literal)
match_clauses g k p = equality_clauses g (the_equality k p)

-- the clauses of the match that are still to be asked, and the terms that bound variables stand for
pub record Given : Type 0 where
  pub rest : List (List Literal)
  pub put : List Replaced

abbrev pub put_for : Equation → List Replaced
put_for e = record { name = e.variable.name; term = e.term } ∷ []

-- what a clause gives, where it is for one of these variables and nothing was put for that before
abbrev pub if_new : List SortedName → List Replaced → Option Equation → Option Equation
if_new told put (Some e) = if not (is_some (replacement_for put e.variable.name)) && is_named e.variable.name told then Some e else None
if_new told put None = None
