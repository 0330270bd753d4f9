-- A symbolic state that is read from a pattern: its predicates opened, its equations solved.
-- Source: equations of variables by substitution, as unification has them; the order is this project's.
use Rattle.std.specs.Prelude.{◌≡◌, ℕ, zero, suc, ◌+◌, Bool, true, false, not, ◌&&◌, ◌||◌, nat_le, List, [], ◌∷◌, ◌++◌, length, map, Option, Some, None, is_some, if◌then◌else◌}
use Rattle.std.specs.Bool.{beq}
use Rattle.std.specs.List.{list_any}
use Rattle.kp_kore.specs.Syntax.{KoreSort, KorePattern, conjunction}
use Rattle.kp_kore.specs.Attributes.{sorts_equal}
use Rattle.kp_kore.specs.Hooks.{equal, different, whole_comparison, values_equal, values_different}
use Rattle.kp_kore.specs.Parts.{SortedName, free_variables}
use Rattle.kp_kore.specs.Signature.{KoreSignature, SymbolMeaning, interpretation, meaning_of}
use Rattle.kp_kore.specs.Sorting.{sort_of_term}
use Rattle.kp_kore.specs.Value.{truth}
use Rattle.kp_kore.specs.Instance.{Valuation, GivesSorts, is_named, conjoined_terms, conjoined_predicates}
use Rattle.kp_symbolic.specs.Terms.{SymbolicTerm, unknown, known, headed, no_terms, next_term, term_variables, Replaced, replacement_for}
use Rattle.kp_symbolic.specs.Formulas.{Formula, one_of, Formulas, no_formulas, next_formula}
use Rattle.kp_symbolic.specs.States.{Atom, same, has_head, quoted, Literal, atom_variables, AreGiven, clause_variables, SymbolicState}
use Rattle.kp_symbolic.specs.WellFormed.{IsWellSortedAtom, AreWellPlaced}
use Rattle.kp_symbolic.specs.Folding.{is_text_before, folded, replaced}
use Rattle.kp_symbolic.specs.Opening.{literal_fact, opened_same, opened_test}
use Rattle.kp_symbolic.specs.Clauses.{distributed, without_repeats, is_too_large, clauses_of_conjuncts, denied}
use Rattle.kp_symbolic.specs.Writing.{is_solved_by, IsSaid, written_clause, written_clauses}

-- ---- equations

-- a variable, and the term that it is equal to
pub record Equation : Type 0 where
  pub variable : SortedName
  pub term : SymbolicTerm

-- of a variable with a term that doesn't hold it, of the variable's sort
abbrev pub equation_if : KoreSignature → SortedName → SymbolicTerm → Option Equation
equation_if g x t = if is_solved_by g x t then Some (record { variable = x; term = t }) else None

abbrev pub first_equation : Option Equation → Option Equation → Option Equation
first_equation (Some e) o = Some e
first_equation None o = o

-- of two variables of one sort the one least by name goes, of two sorts the one of the higher
abbrev pub equation_of_sides : KoreSignature → SymbolicTerm → SymbolicTerm → Option Equation
equation_of_sides g (unknown x) (unknown y) =
    if sorts_equal x.sort y.sort && is_text_before y.name x.name then equation_if g y (unknown x)
    else first_equation (equation_if g x (unknown y)) (equation_if g y (unknown x))
equation_of_sides g (unknown x) u = equation_if g x u
equation_of_sides g t (unknown y) = equation_if g y t
equation_of_sides g t u = None

-- a call that is true where its sides are equal, or not equal
abbrev pub tells_equal : SymbolMeaning → Bool
tells_equal (interpretation (whole_comparison equal)) = true
tells_equal (interpretation values_equal) = true
tells_equal _ = false

abbrev pub tells_different : SymbolMeaning → Bool
tells_different (interpretation (whole_comparison different)) = true
tells_different (interpretation values_different) = true
tells_different _ = false

-- what a Boolean expression equates where it is true, or false
abbrev pub equation_of_truth : KoreSignature → Bool → SymbolicTerm → Option Equation
equation_of_truth g b (headed f (next_term t (next_term u no_terms))) = if (b && tells_equal (meaning_of g f)) || (not b && tells_different (meaning_of g f)) then equation_of_sides g t u else None
equation_of_truth g b t = None

-- \equals of two terms, the calls that tell equality, and \not of those that tell difference
abbrev pub equation_of_atom : KoreSignature → Bool → Atom → Option Equation
equation_of_atom g b (same s t (known (truth a))) = first_equation (equation_of_truth g (beq a b) t) (if b then equation_of_sides g t (known (truth a)) else None)
equation_of_atom g b (same s (known (truth a)) u) = first_equation (equation_of_truth g (beq a b) u) (if b then equation_of_sides g (known (truth a)) u else None)
equation_of_atom g true (same s t u) = equation_of_sides g t u
equation_of_atom g b a = None

abbrev pub equation_of : KoreSignature → List Literal → Option Equation
equation_of g (l ∷ []) = equation_of_atom g l.holds l.atom
equation_of g c = None

-- ---- a replacement in clauses

abbrev pub replacement : Equation → List Replaced
replacement e = record { name = e.variable.name; term = e.term } ∷ []

-- behind the replacements before it
abbrev pub replaced_after : KoreSignature → Equation → KorePattern → List Replaced → List Replaced
replaced_after g e p rs = map (λ r. record { name = r.name; term = replaced g (replacement e) r.term }) rs ++ (if is_named e.variable.name (free_variables p) && not (is_some (replacement_for rs e.variable.name)) then replacement e else [])

-- the literal with the term in the variable's place, opened again
abbrev pub opened_with : KoreSignature → Equation → Bool → Bool → Atom → Formula Literal
opened_with g e alone b (same s t u) = opened_same g alone b s (replaced g (replacement e) t) (replaced g (replacement e) u)
opened_with g e alone b (has_head x test) = opened_test g b test (literal_fact b (has_head x test)) (replaced g (replacement e) (unknown x))
opened_with g e alone b (quoted p rs) = literal_fact b (quoted p (replaced_after g e p rs))

abbrev pub all_opened_with : KoreSignature → Equation → Bool → List Literal → Formulas Literal
all_opened_with g e alone [] = no_formulas
all_opened_with g e alone (l ∷ c) = next_formula (opened_with g e alone l.holds l.atom) (all_opened_with g e alone c)

abbrev pub is_single : List Literal → Bool
is_single (l ∷ []) = true
is_single c = false

-- a clause that is opened again is a conjunct of its own: its clauses, or itself as one literal where that makes too many
abbrev pub opened_clause : KoreSignature → Equation → List Literal → Formula Literal
opened_clause g e c = one_of (all_opened_with g e (is_single c) c)

abbrev pub solved_clause : KoreSignature → KoreSort → Equation → ℕ → List Literal → List (List Literal)
solved_clause g sort e so_far c =
    if not (is_named e.variable.name (clause_variables c)) then c ∷ []
    else if is_too_large so_far (opened_clause g e c) then (record { holds = true; atom = quoted (written_clause g sort c) (replacement e) } ∷ []) ∷ []
    else distributed (opened_clause g e c)

abbrev pub literals_in : List (List Literal) → ℕ
literals_in [] = 0
literals_in (c ∷ cs) = length c + literals_in cs

-- the clauses with the term in the variable's place, but for the one at this place
abbrev pub solved_clauses : KoreSignature → KoreSort → Equation → ℕ → Option ℕ → List (List Literal) → List (List Literal)
solved_clauses g sort e so_far place [] = []
solved_clauses g sort e so_far (Some zero) (c ∷ cs) = c ∷ solved_clauses g sort e (so_far + length c) None cs
solved_clauses g sort e so_far (Some (suc i)) (c ∷ cs) = solved_clause g sort e so_far c ++ solved_clauses g sort e (so_far + literals_in (solved_clause g sort e so_far c)) (Some i) cs
solved_clauses g sort e so_far None (c ∷ cs) = solved_clause g sort e so_far c ++ solved_clauses g sort e (so_far + literals_in (solved_clause g sort e so_far c)) None cs

-- ---- solving

-- a clause that is an equation whose variable stands in the term or in another clause
pub record Solvable : Type 0 where
  pub place : ℕ
  pub equation : Equation

abbrev pub stands_elsewhere : SymbolicState → List (List Literal) → Equation → Bool
stands_elsewhere s others e = is_named e.variable.name (term_variables s.term) || list_any (λ c. is_named e.variable.name (clause_variables c)) others

-- the first of these clauses that can be solved, behind so many others
abbrev pub solvable_if : SymbolicState → List (List Literal) → ℕ → Option Equation → Option Solvable
solvable_if s others i (Some e) = if stands_elsewhere s others e then Some (record { place = i; equation = e }) else None
solvable_if s others i None = None

abbrev pub first_of_two : Option Solvable → Option Solvable → Option Solvable
first_of_two (Some e) o = Some e
first_of_two None o = o

abbrev pub first_solvable_among : KoreSignature → SymbolicState → List (List Literal) → List (List Literal) → Option Solvable
first_solvable_among g s before [] = None
first_solvable_among g s before (c ∷ cs) = first_of_two (solvable_if s (before ++ cs) (length before) (equation_of g c)) (first_solvable_among g s (before ++ c ∷ []) cs)

-- a state of more literals isn't solved
abbrev pub most_solved : ℕ
most_solved = 512

abbrev pub first_solvable : KoreSignature → SymbolicState → Option Solvable
first_solvable g s = if nat_le (literals_in s.clauses) most_solved then first_solvable_among g s [] s.clauses else None

abbrev pub solved_at : KoreSignature → Solvable → SymbolicState → SymbolicState
solved_at g o s = record {
  term = replaced g (replacement o.equation) s.term;
  sort = s.sort;
  clauses = without_repeats (solved_clauses g s.sort o.equation 0 (Some o.place) s.clauses);
  variables = s.variables;
}

-- under a valuation, an atom in which the equation's term may stand for its variable: all its variables have values of their
-- sorts, before and after, it is well-sorted, and what is written for it says what it says
pub record IsReadyAtom (g : KoreSignature) (v : Valuation) (sort : KoreSort) (e : Equation) (a : Atom) : Type 0 where
  pub sorted : IsWellSortedAtom g a
  pub gives : GivesSorts g v (atom_variables a)
  pub placed : AreWellPlaced g (replacement e) (atom_variables a)
  pub given : AreGiven g (replacement e) v (atom_variables a)
  pub said : IsSaid g v sort a

-- the first equation that can be solved is, until none can
pub data Solving (g : KoreSignature) : SymbolicState → SymbolicState → Type 0 where
  finished : (s : SymbolicState) → first_solvable g s ≡ None → Solving g s s
  goes_on : (s end : SymbolicState) (o : Solvable) → first_solvable g s ≡ Some o → Solving g (solved_at g o s) end → Solving g s end

-- ---- reading

-- a conjunction of one term and predicates, before its equations are solved
abbrev pub opened_state : KoreSignature → KorePattern → Option SymbolicState
opened_state g p = of_terms (conjoined_terms p)
  where
    of_sort : KorePattern → Option KoreSort → Option SymbolicState
    of_sort t (Some s) = Some (record { term = folded g [] t; sort = s; clauses = without_repeats (clauses_of_conjuncts g [] 0 (conjoined_predicates p)); variables = free_variables p })
    of_sort t None = None

    of_terms : List KorePattern → Option SymbolicState
    of_terms (t ∷ []) = of_sort t (sort_of_term g t)
    of_terms ts = None

pub record IsReadAs (g : KoreSignature) (p : KorePattern) (s : SymbolicState) : Type 0 where
  pub opened : SymbolicState
  pub is_opened : opened_state g p ≡ Some opened
  pub solving : Solving g opened s

-- ---- the opposite of clauses

-- one of the opposites of each clause; where that makes too many literals, \not of what is written for the clauses
abbrev pub negated : KoreSignature → KoreSort → List (List Literal) → List (List Literal)
negated g sort cs =
    if is_too_large 0 (denied g cs) then (record { holds = false; atom = quoted (conjunction sort (written_clauses g sort cs)) [] } ∷ []) ∷ []
    else distributed (denied g cs)
