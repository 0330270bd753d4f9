-- Equations that can be solved, and clauses in which one is.
use Rattle.std.specs.Prelude.{ℕ, Bool, true, List, [], ◌∷◌, Option, if◌then◌else◌}
use Rattle.kp_kore.specs.Syntax.{KoreSort, KorePattern}
use Rattle.kp_kore.specs.Signature.{KoreSignature}
use Rattle.kp_symbolic.specs.Terms.{Replaced}
use Rattle.kp_symbolic.specs.States.{quoted, Literal, SymbolicState}
use Rattle.kp_symbolic.specs.Writing.{written_clause}
use Rattle.kp_symbolic.specs.Clauses.{distributed, is_too_large}
use Rattle.kp_symbolic.specs.Solving as model
use Rattle.kp_symbolic.specs.Solving.{Equation, replacement, opened_clause, solved_clause}
use Rattle.kp_literals.specs.Equations.{equation_view}
use Rattle.kp_solving.specs.declared.first_equation.Solvable.{Solvable}

abbrev pub solvable_of : ℕ → Equation → model.Solvable
solvable_of i e = record { place = i; equation = e }

abbrev pub solvable_view : Solvable → model.Solvable
solvable_view o = solvable_of o.place (equation_view o.equation)

-- the equation that the clause at a place between others is, where it can be solved
abbrev pub solvable_clause : KoreSignature → SymbolicState → List (List Literal) → ℕ → List Literal → Option model.Solvable
solvable_clause g s others i c = model.solvable_if s others i (model.equation_of g c)

-- a predicate with terms in the place of variables, as the one literal of a clause
abbrev pub quoted_clause : KorePattern → List Replaced → List Literal
quoted_clause p rs = record { holds = true; atom = quoted p rs } ∷ []

-- of a clause that holds the equation's variable
abbrev pub solved_holding : KoreSignature → KoreSort → Equation → ℕ → List Literal → List (List Literal)
solved_holding g sort e so_far c =
    if is_too_large so_far (opened_clause g e c) then quoted_clause (written_clause g sort c) (replacement e) ∷ []
    else distributed (opened_clause g e c)

-- the equation's own clause stays as it is
abbrev pub solved_or_kept : KoreSignature → KoreSort → Equation → ℕ → Bool → List Literal → List (List Literal)
solved_or_kept g sort e so_far own c = if own then c ∷ [] else solved_clause g sort e so_far c
