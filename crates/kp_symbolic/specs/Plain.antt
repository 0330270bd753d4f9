-- Which literals are decided, by their form: comparisons of whole numbers with at most a variable on each side, Boolean
-- variables, equality of tokens, and, in a clause of their own, heads of variables and solved equations.
-- Source: difference constraints over the whole numbers; the choice is this project's.
use Rattle.std.specs.Prelude.{◌≡◌, ℤ, pos, Bool, true, false, not, ◌&&◌, ◌||◌, List, [], ◌∷◌, ◌++◌, map, Option, Some, None, is_some, if◌then◌else◌}
use Rattle.std.specs.Bool.{beq}
use Rattle.std.specs.List.{list_all, filter}
use Rattle.kp_kore.specs.Syntax.{Text, KoreSort}
use Rattle.kp_kore.specs.Attributes.{sorts_equal}
use Rattle.kp_kore.specs.Hooks.{Comparison, equal, different, less, at_most, greater, at_least, whole_comparison, values_equal, values_different}
use Rattle.kp_kore.specs.Parts.{SortedName}
use Rattle.kp_kore.specs.Signature.{KoreSignature, SymbolMeaning, interpretation, meaning_of, is_truth_sort, Head, tokens, heads_of, has_only_numbers, has_only_truths}
use Rattle.kp_kore.specs.Value.{Value, whole, truth, token, constructed, no_values}
use Rattle.kp_kore.specs.Instance.{is_named}
use Rattle.kp_symbolic.specs.Terms.{SymbolicTerm, unknown, offset, known, headed, no_terms, next_term, term_variables}
use Rattle.kp_symbolic.specs.States.{HeadTest, one_head, Atom, same, has_head, quoted, Literal, clause_variables, SymbolicState}
use Rattle.kp_symbolic.specs.Solving.{Equation, equation_of}

-- ---- sorts of tokens

abbrev pub is_tokens_of : KoreSort → Head → Bool
is_tokens_of s (tokens t) = sorts_equal s t
is_tokens_of s h = false

abbrev pub are_tokens_of_one : List Head → Bool
are_tokens_of_one (tokens s ∷ hs) = list_all (is_tokens_of s) hs
are_tokens_of_one hs = false

-- all values of the sort are tokens of one sort
abbrev pub has_only_tokens : KoreSignature → KoreSort → Bool
has_only_tokens g s = are_tokens_of_one (heads_of g s)

-- ---- sides of comparisons

-- a variable or none, and a constant
pub record WholePart : Type 0 where
  pub variable : Option Text
  pub constant : ℤ

abbrev pub whole_part_of : KoreSignature → SortedName → ℤ → Option WholePart
whole_part_of g x c = if has_only_numbers g x.sort then Some (record { variable = Some x.name; constant = c }) else None

-- a whole-number variable, such a variable and a constant, or a constant
abbrev pub whole_part : KoreSignature → SymbolicTerm → Option WholePart
whole_part g (unknown x) = whole_part_of g x (pos 0)
whole_part g (offset x c) = whole_part_of g x c
whole_part g (known (whole n)) = Some (record { variable = None; constant = n })
whole_part g _ = None

-- a variable of a sort of tokens, or a token
pub data TokenPart : Type 0 where
  some_token : Text → TokenPart
  one_token : Value → TokenPart

abbrev pub token_part : KoreSignature → SymbolicTerm → Option TokenPart
token_part g (unknown x) = if has_only_tokens g x.sort then Some (some_token x.name) else None
token_part g (known (token s t)) = Some (one_token (token s t))
token_part g _ = None

-- ---- forms

-- what a decided literal says
pub data Form : Type 0 where
  compares : Comparison → WholePart → WholePart → Form
  -- the Boolean variable of this name is true, or false
  is_truth : Text → Bool → Form
  -- two tokens are equal, or not
  equates : Bool → TokenPart → TokenPart → Form
  -- the variable's head passes the test, or not
  asks : SortedName → HeadTest → Bool → Form
  -- the equation of a variable that stands in no other clause
  gives : Equation → Form

-- the comparison that holds where this one doesn't
abbrev pub opposite : Comparison → Comparison
opposite equal = different
opposite different = equal
opposite less = at_least
opposite at_least = less
opposite at_most = greater
opposite greater = at_most

abbrev pub comparison_if : Bool → Comparison → Comparison
comparison_if true c = c
comparison_if false c = opposite c

abbrev pub comparing : Bool → Comparison → Option WholePart → Option WholePart → Option Form
comparing b c (Some m) (Some n) = Some (compares (comparison_if b c) m n)
comparing b c _ _ = None

abbrev pub equating : Bool → Option TokenPart → Option TokenPart → Option Form
equating b (Some p) (Some q) = Some (equates b p q)
equating b _ _ = None

abbrev pub first_form : Option Form → Option Form → Option Form
first_form (Some f) o = Some f
first_form None o = o

-- equality of two terms, or its opposite
abbrev pub equality_form : KoreSignature → Bool → SymbolicTerm → SymbolicTerm → Option Form
equality_form g b t u = first_form (comparing b equal (whole_part g t) (whole_part g u)) (equating b (token_part g t) (token_part g u))

-- a call that is true, or false
abbrev pub call_form : KoreSignature → Bool → SymbolMeaning → SymbolicTerm → SymbolicTerm → Option Form
call_form g b (interpretation (whole_comparison c)) t u = comparing b c (whole_part g t) (whole_part g u)
call_form g b (interpretation values_equal) t u = equality_form g b t u
call_form g b (interpretation values_different) t u = equality_form g (not b) t u
call_form g b _ t u = None

-- a Boolean expression that is true, or false
abbrev pub truth_form : KoreSignature → Bool → SymbolicTerm → Option Form
truth_form g b (unknown x) = if has_only_truths g x.sort then Some (is_truth x.name b) else None
truth_form g b (headed f (next_term t (next_term u no_terms))) = call_form g b (meaning_of g f) t u
truth_form g b _ = None

-- equality at the truth sort is read where a side is a truth value
abbrev pub same_form : KoreSignature → Bool → Bool → SymbolicTerm → SymbolicTerm → Option Form
same_form g true b t (known (truth c)) = truth_form g (beq b c) t
same_form g true b (known (truth c)) u = truth_form g (beq b c) u
same_form g true b t u = None
same_form g false b t u = equality_form g b t u

-- what a literal says in any clause
abbrev pub form_of : KoreSignature → Literal → Option Form
form_of g l = of_atom l.holds l.atom
  where
    of_atom : Bool → Atom → Option Form
    of_atom b (same s t u) = same_form g (is_truth_sort g s) b t u
    of_atom b (has_head x test) = None
    of_atom b (quoted p rs) = None

-- ---- in a clause of its own

-- the variable stands in no other clause and not in the term
abbrev pub stands_alone : SymbolicState → List (List Literal) → Text → Bool
stands_alone s others x = not (is_named x (term_variables s.term)) && list_all (λ c. not (is_named x (clause_variables c))) others

-- the variable stands in no other clause; whether clauses can be true doesn't hang on the state's term
abbrev pub stands_in_none : List (List Literal) → Text → Bool
stands_in_none others x = list_all (λ c. not (is_named x (clause_variables c))) others

-- a solved equation, but for one of whole numbers that isn't a comparison
abbrev pub solved_form : KoreSignature → SymbolicState → List (List Literal) → Option Equation → Option Form
solved_form g s others (Some e) = if has_only_numbers g e.variable.sort || not (stands_in_none others e.variable.name) then None else Some (gives e)
solved_form g s others None = None

-- a constructor without arguments is its head: equality with it, or its opposite
abbrev pub constant_form : Bool → SymbolicTerm → SymbolicTerm → Option Form
constant_form b (unknown x) (known (constructed c no_values)) = Some (asks x (one_head c) b)
constant_form b (known (constructed c no_values)) (unknown x) = Some (asks x (one_head c) b)
constant_form b t u = None

-- a call that is true, or false
abbrev pub head_by_call : Bool → SymbolMeaning → SymbolicTerm → SymbolicTerm → Option Form
head_by_call b (interpretation values_equal) t u = constant_form b t u
head_by_call b (interpretation values_different) t u = constant_form (not b) t u
head_by_call b m t u = None

-- a Boolean expression that is true, or false
abbrev pub head_by_truth : KoreSignature → Bool → SymbolicTerm → Option Form
head_by_truth g b (headed f (next_term t (next_term u no_terms))) = head_by_call b (meaning_of g f) t u
head_by_truth g b t = None

-- equality of two terms, or its opposite
abbrev pub head_by_sides : KoreSignature → Bool → SymbolicTerm → SymbolicTerm → Option Form
head_by_sides g b t (known (truth c)) = head_by_truth g (beq b c) t
head_by_sides g b (known (truth c)) u = head_by_truth g (beq b c) u
head_by_sides g b t u = constant_form b t u

-- that the head of a variable is one of those that a test asks for, or isn't
abbrev pub head_form : KoreSignature → Literal → Option Form
head_form g l = of_atom l.holds l.atom
  where
    of_atom : Bool → Atom → Option Form
    of_atom b (has_head x test) = Some (asks x test b)
    of_atom b (same s t u) = head_by_sides g b t u
    of_atom b (quoted p rs) = None

-- what a literal says in a clause of its own, beside these others
abbrev pub own_form : KoreSignature → SymbolicState → List (List Literal) → Literal → Option Form
own_form g s others l = first_form (form_of g l) (first_form (head_form g l) (solved_form g s others (equation_of g (l ∷ []))))

-- ---- the clauses of a state

-- a literal with what it says, where it is decided
pub record ReadLiteral : Type 0 where
  pub literal : Literal
  pub form : Option Form

abbrev pub read_clause : KoreSignature → SymbolicState → List (List Literal) → List Literal → List ReadLiteral
read_clause g s others (l ∷ []) = record { literal = l; form = own_form g s others l } ∷ []
read_clause g s others c = map (λ l. record { literal = l; form = form_of g l }) c

-- each clause in turn, beside all others
abbrev pub read_from : KoreSignature → SymbolicState → List (List Literal) → List (List Literal) → List (List ReadLiteral)
read_from g s before [] = []
read_from g s before (c ∷ after) = read_clause g s (before ++ after) c ∷ read_from g s (before ++ c ∷ []) after

abbrev pub read_clauses : KoreSignature → SymbolicState → List (List ReadLiteral)
read_clauses g s = read_from g s [] s.clauses

abbrev pub has_form : ReadLiteral → Bool
has_form l = is_some l.form

-- a clause is plain where all its literals are
abbrev pub is_plain_clause : List ReadLiteral → Bool
is_plain_clause c = list_all has_form c

abbrev pub literals_of : List ReadLiteral → List Literal
literals_of c = map (λ l. l.literal) c

-- what is left of a clause without the literals that aren't plain
abbrev pub plain_part : List ReadLiteral → List Literal
plain_part c = literals_of (filter has_form c)

abbrev pub IsPlainState : KoreSignature → SymbolicState → Type 0
IsPlainState g s = list_all is_plain_clause (read_clauses g s) ≡ true

-- the clauses that are plain, and those that hold a literal that isn't
abbrev pub plain_clauses : KoreSignature → SymbolicState → List (List Literal)
plain_clauses g s = map literals_of (filter is_plain_clause (read_clauses g s))

abbrev pub rough_clauses : KoreSignature → SymbolicState → List (List Literal)
rough_clauses g s = map literals_of (filter (λ c. not (is_plain_clause c)) (read_clauses g s))
