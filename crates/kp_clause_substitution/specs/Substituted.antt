-- A symbolic state with terms in the place of variables, all at once.
-- Source: simultaneous substitution; the bound on what is opened again is this project's.
use Rattle.std.specs.Prelude.{ℕ, ◌+◌, true, not, List, [], ◌∷◌, ◌++◌, if◌then◌else◌}
use Rattle.std.specs.List.{flat_map, list_any}
use Rattle.kp_kore.specs.Syntax.{KoreSort}
use Rattle.kp_kore.specs.Signature.{KoreSignature}
use Rattle.kp_kore.specs.Instance.{Valuation, is_named}
use Rattle.kp_symbolic.specs.Terms.{Replaced, replacement_for, under_replaced}
use Rattle.kp_symbolic.specs.Folding.{replaced}
use Rattle.kp_symbolic.specs.States.{Atom, Literal, AreGiven, variables_for, atom_variables, clause_variables, SymbolicState}
use Rattle.kp_symbolic.specs.WellFormed.{IsWellSortedAtom, AreWellPlaced}
use Rattle.kp_symbolic.specs.Opening.{quotation}
use Rattle.kp_symbolic.specs.Clauses.{distributed, without_repeats, is_too_large}
use Rattle.kp_symbolic.specs.Solving.{literals_in}
use Rattle.kp_symbolic.specs.Writing.{IsSaid, written_clause}
use Rattle.kp_clause_substitution.specs.Replacing.{clause_under}

-- a clause that holds a variable with a term in its place is opened again; what is written for it is kept as one literal, with
-- the terms beside it, where opening makes too many
abbrev pub substituted_clause : KoreSignature → KoreSort → List Replaced → ℕ → List Literal → List (List Literal)
substituted_clause g sort qs so_far c =
    if not (list_any (λ q. is_named q.name (clause_variables c)) qs) then c ∷ []
    else if is_too_large so_far (clause_under g qs c) then (record { holds = true; atom = quotation qs (written_clause g sort c) } ∷ []) ∷ []
    else distributed (clause_under g qs c)

abbrev pub substituted_clauses : KoreSignature → KoreSort → List Replaced → ℕ → List (List Literal) → List (List Literal)
substituted_clauses g sort qs so_far [] = []
substituted_clauses g sort qs so_far (c ∷ cs) = substituted_clause g sort qs so_far c ++ substituted_clauses g sort qs (so_far + literals_in (substituted_clause g sort qs so_far c)) cs

-- at hand are the variables that were, and those of the terms in the place of others
abbrev pub substituted : KoreSignature → List Replaced → SymbolicState → SymbolicState
substituted g qs s = record {
  term = replaced g qs s.term;
  sort = s.sort;
  clauses = without_repeats (substituted_clauses g s.sort qs 0 s.clauses);
  variables = flat_map (λ x. variables_for x (replacement_for qs x.name)) s.variables;
}

-- under a valuation, an atom in which terms may stand for variables: all variables have values of their sorts, before and
-- after, it is well-sorted, and what is written for it says what it says
pub record IsReady (g : KoreSignature) (v : Valuation) (sort : KoreSort) (qs : List Replaced) (a : Atom) : Type 0 where
  pub sorted : IsWellSortedAtom g a
  pub placed : AreWellPlaced g qs (atom_variables a)
  pub given : AreGiven g qs v (atom_variables a)
  pub said : IsSaid g (under_replaced g qs v) sort a
