-- The patterns that replies write for symbolic terms, clauses and states, up to the order of clauses and literals.
-- Source: the K framework's Kore language; the normal form is this project's.
use Rattle.std.specs.Prelude.{◌≡◌, ◌⊎◌, ◌↔◌, IsTrue, ℕ, zero, suc, ℤ, pos, neg_ℤ, int_lt, Bool, true, not, ◌&&◌, List, [], ◌∷◌, ◌++◌, map, length, Option, Some, None, unwrap_or, if◌then◌else◌, codes}
use Rattle.std.specs.List.{flat_map, list_any}
use Rattle.std.specs.Fmt.{decimal, signed_decimal}
use Rattle.std.specs.Str.{bytes_eq}
use Rattle.kp_kore.specs.Syntax.{Text, KoreSort, sort_variable, KoreSorts, no_sorts, next_sort, KorePattern, KorePatterns, variable, application, literal, bottom, negation, conjunction, disjunction, implication, equivalence, exists, forall, ceil, floor, equals, membership, no_patterns, next_pattern}
use Rattle.kp_kore.specs.Attributes.{sorts_equal}
use Rattle.kp_kore.specs.Hooks.{addition, subtraction}
use Rattle.kp_kore.specs.Parts.{SortedName, free_variables, without_name, variable_names}
use Rattle.kp_kore.specs.Signature.{KoreSignature, injection, meaning_of}
use Rattle.kp_kore.specs.Sorting.{result_sort}
use Rattle.kp_kore.specs.Instance.{Valuation, is_named, IsTrueUnder}
use Rattle.kp_kore.specs.Foreign.{none_within}
use Rattle.kp_compile.specs.Spelled.{placed, places_of, spelling, injection_name, has_two_sorts}
use Rattle.kp_symbolic.specs.Terms.{SymbolicTerm, unknown, offset, known, headed, SymbolicTerms, next_term, term_variables, Replaced, replacement_for}
use Rattle.kp_symbolic.specs.WellFormed.{term_sort, is_sort_below}
use Rattle.kp_symbolic.specs.Folding.{is_text_before, least_symbol, folded}
use Rattle.kp_symbolic.specs.States.{HeadTest, one_head, head_of_sort, Atom, same, has_head, quoted, IsAtomTrue, Literal, variables_for, SymbolicState}

-- ---- terms

abbrev pub written_call : Option Text → SortedName → ℤ → KorePattern
written_call (Some f) x n = application f no_sorts (next_pattern (variable x.name x.sort) (next_pattern (literal x.sort (signed_decimal n)) no_patterns))
written_call None x n = variable x.name x.sort

-- a positive constant is added, the opposite of a negative one subtracted, by the symbol of the least name
abbrev pub written_sum : KoreSignature → SortedName → ℤ → KorePattern
written_sum g x c = if int_lt (pos 0) c then written_call (least_symbol g addition) x c else written_call (least_symbol g subtraction) x (neg_ℤ c)

-- a term at a sort, under inj where its own sort is another
abbrev mutual
  pub written_term : KoreSignature → KoreSort → SymbolicTerm → KorePattern
  written_term g s (unknown x) = placed x.sort s (variable x.name x.sort)
  written_term g s (offset x c) = placed x.sort s (written_sum g x c)
  written_term g s (known u) = spelling g s u
  written_term g s (headed f ts) = placed (unwrap_or (result_sort g f no_sorts) s) s (application f no_sorts (written_terms g (places_of g f) ts))

  pub written_terms : KoreSignature → KoreSorts → SymbolicTerms → KorePatterns
  written_terms g (next_sort s ss) (next_term t ts) = next_pattern (written_term g s t) (written_terms g ss ts)
  written_terms g _ _ = no_patterns

-- inj is what it should be, or no symbol at two sorts stands in the pattern
abbrev pub InjectsWhereItStands : KoreSignature → KorePattern → Type 0
InjectsWhereItStands g p = (meaning_of g injection_name ≡ injection) ⊎ IsTrue (none_within has_two_sorts p)

-- ---- new names

abbrev pub fresh_name : ℕ → Text
fresh_name n = codes "Fresh" ++ decimal n

-- the first number from n on, or after so many, whose name isn't used
abbrev pub fresh_from : ℕ → ℕ → List Text → ℕ
fresh_from zero n used = n
fresh_from (suc k) n used = if list_any (bytes_eq (fresh_name n)) used then fresh_from k (suc n) used else n

abbrev pub least_fresh : List Text → Text
least_fresh used = fresh_name (fresh_from (length used) 1 used)

-- ---- tests of heads

-- a new variable for each sort, none of them used
abbrev pub new_variables : List Text → KoreSorts → List SortedName
new_variables used no_sorts = []
new_variables used (next_sort s ss) = record { name = least_fresh used; sort = s } ∷ new_variables (least_fresh used ∷ used) ss

abbrev pub under_exists : KoreSort → List SortedName → KorePattern → KorePattern
under_exists sort [] p = p
under_exists sort (x ∷ xs) p = exists sort x.name x.sort (under_exists sort xs p)

abbrev pub variables_of : List SortedName → KorePatterns
variables_of [] = no_patterns
variables_of (x ∷ xs) = next_pattern (variable x.name x.sort) (variables_of xs)

-- the variable is the constructor of some values, or some value of the sort
abbrev pub written_test : KoreSignature → KoreSort → SortedName → HeadTest → KorePattern
written_test g sort x (one_head c) = asks (new_variables (x.name ∷ []) (places_of g c))
  where
    asks : List SortedName → KorePattern
    asks xs = under_exists sort xs (equals x.sort sort (variable x.name x.sort) (placed (unwrap_or (result_sort g c no_sorts) x.sort) x.sort (application c no_sorts (variables_of xs))))
written_test g sort x (head_of_sort s) = asks (least_fresh (x.name ∷ []))
  where
    asks : Text → KorePattern
    asks y = exists sort y s (equals x.sort sort (variable x.name x.sort) (placed s x.sort (variable y s)))

-- ---- quoted predicates

-- the names of the variables that p's free variables but x stand for
abbrev pub names_coming_in : List Replaced → Text → KorePattern → List Text
names_coming_in rs x p = map (λ y. y.name) (flat_map (λ y. variables_for y (replacement_for rs y.name)) (without_name x (free_variables p)))

-- a binder's name, or a new one where it would bind a variable that comes in
abbrev pub bound_name : List Replaced → Text → KorePattern → Text
bound_name rs x p = if list_any (bytes_eq x) (names_coming_in rs x p) then least_fresh (names_coming_in rs x p ++ variable_names p) else x

-- under a binder of x, which is named y now
abbrev pub renamed : Text → Text → KoreSort → List Replaced → List Replaced
renamed x y t rs = record { name = x; term = unknown (record { name = y; sort = t }) } ∷ rs

-- the predicate with the terms in the place of its free variables; its terms are folded
abbrev mutual
  pub written_under : KoreSignature → List Replaced → KorePattern → KorePattern
  written_under g rs (variable x s) = written_term g s (folded g rs (variable x s))
  written_under g rs (literal s text) = written_term g s (folded g rs (literal s text))
  written_under g rs (application f ss ps) = written_term g (unwrap_or (result_sort g f ss) (sort_variable [])) (folded g rs (application f ss ps))
  written_under g rs (negation s p) = negation s (written_under g rs p)
  written_under g rs (conjunction s ps) = conjunction s (all_written_under g rs ps)
  written_under g rs (disjunction s ps) = disjunction s (all_written_under g rs ps)
  written_under g rs (implication s p q) = implication s (written_under g rs p) (written_under g rs q)
  written_under g rs (equivalence s p q) = equivalence s (written_under g rs p) (written_under g rs q)
  written_under g rs (exists s x t p) = exists s (bound_name rs x p) t (written_under g (renamed x (bound_name rs x p) t rs) p)
  written_under g rs (forall s x t p) = forall s (bound_name rs x p) t (written_under g (renamed x (bound_name rs x p) t rs) p)
  written_under g rs (ceil a s p) = ceil a s (written_under g rs p)
  written_under g rs (floor a s p) = floor a s (written_under g rs p)
  written_under g rs (equals a s p q) = equals a s (written_under g rs p) (written_under g rs q)
  written_under g rs (membership a s p q) = membership a s (written_under g rs p) (written_under g rs q)
  written_under g rs p = p

  pub all_written_under : KoreSignature → List Replaced → KorePatterns → KorePatterns
  all_written_under g rs no_patterns = no_patterns
  all_written_under g rs (next_pattern p ps) = next_pattern (written_under g rs p) (all_written_under g rs ps)

-- ---- literals, clauses, states

abbrev pub written_atom : KoreSignature → KoreSort → Atom → KorePattern
written_atom g sort (same s t u) = equals s sort (written_term g s t) (written_term g s u)
written_atom g sort (has_head x test) = written_test g sort x test
written_atom g sort (quoted p rs) = written_under g rs p

-- under a valuation, what is written for the atom says what it says
abbrev pub IsSaid : KoreSignature → Valuation → KoreSort → Atom → Type 0
IsSaid g v sort a = IsTrueUnder g v (written_atom g sort a) ↔ IsAtomTrue g v a

abbrev pub written_signed : KoreSort → Bool → KorePattern → KorePattern
written_signed sort b p = if b then p else negation sort p

abbrev pub written_literal : KoreSignature → KoreSort → Literal → KorePattern
written_literal g sort l = written_signed sort l.holds (written_atom g sort l.atom)

-- a variable may be solved for by a term that doesn't hold it, whose own sort is the variable's or below it
abbrev pub is_solved_by : KoreSignature → SortedName → SymbolicTerm → Bool
is_solved_by g x t = not (is_named x.name (term_variables t)) && is_sort_below g (term_sort g t) x.sort

-- whether the second of two variables is the one that is solved for: of one sort the least by name, of two the one of the
-- higher
abbrev pub is_second_solved : KoreSignature → SortedName → SortedName → Bool
is_second_solved g x y = if sorts_equal x.sort y.sort then is_text_before y.name x.name else not (is_solved_by g x (unknown y)) && is_solved_by g y (unknown x)

abbrev pub turned_if : Bool → KoreSort → SymbolicTerm → SymbolicTerm → Atom
turned_if b s t u = if b then same s u t else same s t u

-- in a clause of its own, an equation has the variable first that is solved for
abbrev pub variable_first : KoreSignature → Literal → Literal
variable_first g l = of_atom l.holds l.atom
  where
    of_atom : Bool → Atom → Literal
    of_atom true (same s (unknown x) (unknown y)) = record { holds = true; atom = turned_if (is_second_solved g x y) s (unknown x) (unknown y) }
    of_atom true (same s t (unknown y)) = record { holds = true; atom = turned_if (is_solved_by g y t) s t (unknown y) }
    of_atom b a = record { holds = b; atom = a }

-- \or of several literals
abbrev pub written_literals : KoreSignature → KoreSort → List Literal → KorePatterns
written_literals g sort [] = no_patterns
written_literals g sort (l ∷ c) = next_pattern (written_literal g sort l) (written_literals g sort c)

abbrev pub written_clause : KoreSignature → KoreSort → List Literal → KorePattern
written_clause g sort [] = bottom sort
written_clause g sort (l ∷ []) = written_literal g sort (variable_first g l)
written_clause g sort c = disjunction sort (written_literals g sort c)

abbrev pub written_clauses : KoreSignature → KoreSort → List (List Literal) → KorePatterns
written_clauses g sort [] = no_patterns
written_clauses g sort (c ∷ cs) = next_pattern (written_clause g sort c) (written_clauses g sort cs)

-- \and of several clauses; none is written by nothing
abbrev pub written_predicate : KoreSignature → KoreSort → List (List Literal) → Option KorePattern
written_predicate g sort [] = None
written_predicate g sort (c ∷ []) = Some (written_clause g sort c)
written_predicate g sort cs = Some (conjunction sort (written_clauses g sort cs))

-- the term alone, or \and of the term and the clauses
abbrev pub written_state : KoreSignature → SymbolicState → KorePattern
written_state g s = with_clauses s.clauses
  where
    with_clauses : List (List Literal) → KorePattern
    with_clauses [] = written_term g s.sort s.term
    with_clauses cs = conjunction s.sort (next_pattern (written_term g s.sort s.term) (written_clauses g s.sort cs))
