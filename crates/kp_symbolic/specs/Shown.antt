-- What an answer shows that leaves a question undecided, and when that is right: one cause for runs, implications and
-- simplified states.
-- Source: the K Haskell backend's JSON-RPC documentation (execute: aborted); the causes are this project's.
use Rattle.std.specs.Prelude.{◌≡◌, ◌⊎◌, ℕ, ◌<◌, ◌≤◌, ◌+◌, ◌-◌, ◌*◌, ◌^◌, ℤ, Bool, true, false, not, ◌&&◌, ◌||◌, min, List, [], ◌∷◌, ◌++◌, map, length, Option, Some, None, is_some, IsTrue, ⊤}
use Rattle.std.specs.List.{AllByRecursion, Contains, flat_map, list_any, list_all, filter}
use Rattle.kp_kore.specs.Syntax.{Text, KoreSort, sort_variable, KorePattern, variable, application, literal}
use Rattle.kp_kore.specs.Hooks.{whole_arithmetic, whole_comparison}
use Rattle.kp_kore.specs.Parts.{SortedName, subpatterns, free_variables, term_depth}
use Rattle.kp_kore.specs.Signature.{KoreSignature, meaning_of, SymbolMeaning, interpretation, is_integer_sort, is_boolean_sort, is_number_sort, has_only_numbers}
use Rattle.kp_kore.specs.Value.{whole}
use Rattle.kp_kore.specs.Interpretation.{no_meaning, computed}
use Rattle.kp_kore.specs.Instance.{Valuation, GivesSorts, conjuncts, is_named}
use Rattle.kp_kore.specs.Limits.{most_depth, fits_number}
use Rattle.kp_kore.specs.Steps.{AnyByRecursion}
use Rattle.kp_symbolic.specs.Terms.{term_instance, SymbolicTerm, unknown, known, headed, no_terms, next_term, Replaced}
use Rattle.kp_symbolic.specs.Formulas.{one_of, Formulas, no_formulas, next_formula}
use Rattle.kp_symbolic.specs.States.{Atom, same, atom_variables, Literal, IsClauseTrue, AreTrue, SymbolicState}
use Rattle.kp_symbolic.specs.WellFormed.{term_sort, IsPlaced}
use Rattle.kp_symbolic.specs.Folding.{replaced}
use Rattle.kp_symbolic.specs.Opening.{opened_same}
use Rattle.kp_symbolic.specs.Clauses.{clauses_of_conjuncts, distributed}
use Rattle.kp_symbolic.specs.Writing.{written_term}
use Rattle.kp_symbolic.specs.Plain.{Form, compares, is_truth, equates, form_of, whole_part, read_clause, read_clauses, ReadLiteral, is_plain_clause, plain_clauses, rough_clauses}
use Rattle.kp_symbolic.specs.Weights.{Weight, bits, literals, product, limit_of, IsWeight, IsOver, IsBitLength, largest, numeric_names, all_bounds, each_once}
use Rattle.kp_symbolic.specs.Sources.{SymbolicRule, IsSourced, IsSourcedPart, opened_under, parts_of, state_parts}

-- ---- what stands beside a state

-- the patterns whose names are used, the state, the rules that meet it, one replacement, the bound variables that nothing gives, and the left
-- terms of all rules that meet it
pub record Situation : Type 0 where
  pub hand : List KorePattern
  pub state : SymbolicState
  pub rules : List SymbolicRule
  pub put : List Replaced
  pub not_given : List SortedName
  pub lefts : List KorePattern

-- ---- clauses by themselves

-- a state in which nothing stands
abbrev pub nothing_else : SymbolicState
nothing_else = record { term = known no_meaning; sort = sort_variable []; clauses = []; variables = [] }

abbrev pub read_alone : KoreSignature → List Literal → List ReadLiteral
read_alone g c = read_clause g nothing_else [] c

abbrev pub is_not_given : Situation → Literal → Bool
is_not_given b l = list_any (λ x. is_named x.name b.not_given) (atom_variables l.atom)

-- some literal of the clause isn't plain
abbrev pub is_rough : KoreSignature → Situation → List Literal → Bool
is_rough g b c = not (is_plain_clause (read_alone g c)) || list_any (is_not_given b) c

-- the clauses that a predicate shows, repeats included
abbrev pub shown_clauses : KoreSignature → KorePattern → List (List Literal)
shown_clauses g p = clauses_of_conjuncts g [] 0 (conjuncts p)

abbrev pub AreDifferent : {X : Type 0} → List X → Type 0
AreDifferent [] = ⊤
AreDifferent (x ∷ xs) = (¬ Contains xs x) × AreDifferent xs

abbrev pub AreSourced : KoreSignature → Situation → List (List Literal) → Type 0
AreSourced g b cs = AllByRecursion (AllByRecursion (IsSourced g b.state b.rules b.put)) cs

-- ---- a rule that is met but for what isn't plain

abbrev pub all_opened_under : KoreSignature → List Replaced → List Literal → Formulas Literal
all_opened_under g put [] = no_formulas
all_opened_under g put (l ∷ c) = next_formula (opened_under g put l.holds l.atom) (all_opened_under g put c)

-- that the left term is the state's, and the condition, as clauses under the match
abbrev pub question_of : KoreSignature → Situation → SymbolicRule → List (List Literal)
question_of g b r =
    distributed (opened_same g true true b.state.sort (replaced g b.put b.state.term) (replaced g b.put r.left))
    ++ flat_map (λ c. distributed (one_of (all_opened_under g b.put c))) r.clauses

-- each replaced variable stands for its term's instance
abbrev pub MakesMatchTrue : KoreSignature → Valuation → List Replaced → Type 0
MakesMatchTrue g v put = AllByRecursion (λ x. v x.name ≡ term_instance g v x.term) put

-- the match is true; some clause of the question isn't plain, and all others are true
pub record IsMetButRough (g : KoreSignature) (b : Situation) (v : Valuation) (r : SymbolicRule) : Type 0 where
  pub sorts : GivesSorts g v r.variables
  pub match : MakesMatchTrue g v b.put
  pub some : AnyByRecursion (λ c. IsTrue (is_rough g b c)) (question_of g b r)
  pub others : AllByRecursion (λ c. IsTrue (is_rough g b c) ⊎ IsClauseTrue g v c) (question_of g b r)

-- Some valuation makes the state's plain clauses true; where the state has no others, something is asked there.
pub record IsUndecidedAt (g : KoreSignature) (b : Situation) (IsAsked : Valuation → Type 0) : Type 0 where
  pub valuation : Valuation
  pub sorts : GivesSorts g valuation b.state.variables
  pub plain : AreTrue g valuation (plain_clauses g b.state)
  pub asked : rough_clauses g b.state ≡ [] → IsAsked valuation

-- ---- counts

abbrev pub is_literal : KorePattern → Bool
is_literal (literal s text) = true
is_literal p = false

abbrev pub is_number : KoreSignature → KorePattern → Bool
is_number g (literal s text) = is_integer_sort g s
is_number g p = false

abbrev pub is_symbol_or_variable : KorePattern → Bool
is_symbol_or_variable (variable x s) = true
is_symbol_or_variable (application f ss ps) = true
is_symbol_or_variable p = false

abbrev pub how_many : (KorePattern → Bool) → KorePattern → ℕ
how_many test p = length (filter test (subpatterns p))

-- places of variables behind the first of each
abbrev pub further_places : KorePattern → ℕ
further_places p = length (free_variables p) - length (each_once (map (λ x. x.name) (free_variables p)))

abbrev pub sum_over : {X : Type 0} → (X → ℕ) → List X → ℕ
sum_over f [] = 0
sum_over f (x ∷ xs) = f x + sum_over f xs

abbrev pub whole_variables : KoreSignature → List SortedName → ℕ
whole_variables g xs = length (each_once (map (λ x. x.name) (filter (λ x. has_only_numbers g x.sort) xs)))

-- the numeric variables of the state and of these rules; a number and each further place of a variable in a left term
-- count as one
abbrev pub numeric_count : KoreSignature → SymbolicState → List KorePattern → ℕ
numeric_count g s lefts = whole_variables g s.variables + sum_over (λ p. whole_variables g (free_variables p) + (how_many (is_number g) p + further_places p)) lefts

-- ---- the states that are decided

-- a rule that meets the state: its left term, the clauses of its condition, and how many free variables of the state are
-- compared besides
pub record RuleShape : Type 0 where
  pub left : KorePattern
  pub clauses : List (List Literal)
  pub compared : ℕ

-- literals of the conditions and of the left terms, further places and compared variables; symbols and variables of the left terms
abbrev pub count_k : List RuleShape → ℕ
count_k rs = sum_over (λ r. sum_over length r.clauses + (how_many is_literal r.left + (further_places r.left + r.compared))) rs

abbrev pub count_m : List RuleShape → ℕ
count_m rs = sum_over (λ r. how_many is_symbol_or_variable r.left) rs

-- a comparison of whole numbers or tokens, or a Boolean variable
abbrev pub is_simple_form : Option Form → Bool
is_simple_form (Some (compares c m n)) = true
is_simple_form (Some (is_truth x b)) = true
is_simple_form (Some (equates b p q)) = true
is_simple_form f = false

-- a comparison of whole-number terms, whatever they are
abbrev pub compares_numbers : KoreSignature → Atom → Bool
compares_numbers g (same s (headed f ts) (known u)) = is_comparison (meaning_of g f) || is_number_sort g s
  where
    is_comparison : SymbolMeaning → Bool
    is_comparison (interpretation (whole_comparison c)) = true
    is_comparison m = false
compares_numbers g (same s t u) = is_number_sort g s
compares_numbers g a = false

-- near: but for whole-number comparisons and parts
abbrev pub is_simple_clause : KoreSignature → Bool → List Literal → Bool
is_simple_clause g near (l ∷ []) = is_simple_form (form_of g l) || (near && compares_numbers g l.atom)
is_simple_clause g near c = false

abbrev pub is_plain_but : KoreSignature → Bool → List ReadLiteral → Bool
is_plain_but g near c = list_all (λ l. is_some l.form || (near && compares_numbers g l.literal.atom)) c

abbrev pub has_sort : (KoreSort → Bool) → KoreSignature → SymbolicTerm → Bool
has_sort test g t = of_sort (term_sort g t)
  where
    of_sort : Option KoreSort → Bool
    of_sort (Some s) = test s
    of_sort None = false

abbrev pub is_variable_or_value : SymbolicTerm → Bool
is_variable_or_value (unknown x) = true
is_variable_or_value (known u) = true
is_variable_or_value t = false

abbrev pub repeats_no_truth : KoreSignature → List SortedName → Bool
repeats_no_truth g [] = true
repeats_no_truth g (x ∷ xs) = not (is_boolean_sort g x.sort && is_named x.name xs) && repeats_no_truth g xs

pub record IsSimple (g : KoreSignature) (near : Bool) (s : SymbolicState) (rules : List RuleShape) : Type 0 where
  pub conditions : AllByRecursion (λ r. IsTrue (list_all (is_simple_clause g near) r.clauses)) rules
  pub repeats : AllByRecursion (λ r. IsTrue (repeats_no_truth g (free_variables r.left))) rules
  pub plain : IsTrue (list_all (is_plain_but g near) (read_clauses g s))
  pub numbers : AllByRecursion (λ t. IsTrue (has_sort (is_integer_sort g) g t) → IsTrue (near || is_some (whole_part g t))) (state_parts s)
  pub truths : AllByRecursion (λ t. IsTrue (has_sort (is_boolean_sort g) g t) → IsTrue (is_variable_or_value t)) (parts_of s.term)

-- a weight's own bound: each case of a rule may double the product, add its literals, widen its constants
abbrev pub IsSmall : KoreSignature → SymbolicState → List RuleShape → Weight → Type 0
IsSmall g s rs product = (n : ℕ) → IsWeight product (read_clauses g s) n → n * 2 ^ count_k rs ≤ limit_of product
IsSmall g s rs literals = (n : ℕ) → IsWeight literals (read_clauses g s) n → n + (2 * count_k rs + count_m rs) ≤ limit_of literals
IsSmall g s rs bits = (k : ℕ) → IsBitLength (largest (all_bounds (read_clauses g s))) k → k + (numeric_count g s (map (λ r. r.left) rs) + 3) ≤ limit_of bits

-- such a state isn't left undecided beside such rules
pub record IsEasy (g : KoreSignature) (s : SymbolicState) (rules : List RuleShape) : Type 0 where
  pub simple : IsSimple g false s rules
  pub small : (w : Weight) → IsSmall g s rules w

-- the weight's own bound is passed, unless more than numbers stands in the way of the state's being easy
abbrev pub OwnBoundPassed : KoreSignature → SymbolicState → List RuleShape → Weight → Type 0
OwnBoundPassed g s rules w = IsSimple g true s rules → ((other : Weight) → ¬ (other ≡ w) → IsSmall g s rules other) → ¬ IsSmall g s rules w

-- ---- causes

pub data Undecided : Type 0 where
  -- clauses that aren't plain
  unknown_clauses : KorePattern → Undecided
  -- clauses of a weight above its limit, with the number that is told
  weight_passed : KorePattern → Weight → ℕ → Undecided
  -- the symbol's call of these numbers leaves signed 128 bits
  wide_number : Text → ℤ → ℤ → Undecided
  -- a term of this depth
  deep : ℕ → Undecided

abbrev pub most_told : ℕ
most_told = 18446744073709551615

abbrev pub Overflows : SymbolMeaning → ℤ → ℤ → Type 0
Overflows (interpretation (whole_arithmetic a)) m n = IsTrue (not (fits_number (computed a m n)))
Overflows meaning m n = ⊥

-- some clauses, none twice, each with a literal that isn't plain, all sourced
pub record IsUnknownPredicate (g : KoreSignature) (b : Situation) (cs : List (List Literal)) : Type 0 where
  pub some : ¬ (cs ≡ [])
  pub once : AreDifferent cs
  pub rough : AllByRecursion (λ c. IsTrue (is_rough g b c)) cs
  pub sourced : AreSourced g b cs

-- for bits no more numeric variables than stand in the state and the rules; for the others the own bound is passed too
abbrev pub IsOwed : KoreSignature → Situation → List RuleShape → Weight → List (List ReadLiteral) → Type 0
IsOwed g b rules bits cs = length (numeric_names (all_bounds cs)) ≤ numeric_count g b.state b.lefts
IsOwed g b rules w cs = OwnBoundPassed g b.state rules w

pub record IsHeavyPredicate (g : KoreSignature) (b : Situation) (rules : List RuleShape) (cs : List (List Literal)) (w : Weight) (told : ℕ) : Type 0 where
  pub once : AreDifferent cs
  pub sourced : AreSourced g b cs
  pub number : ℕ
  pub over : IsOver w (map (read_alone g) cs) number
  pub is_told : told ≡ min number most_told
  pub owed : IsOwed g b rules w (map (read_alone g) cs)

-- the depth of a term that is written for a sourced part, at its own sort or under inj at one above
pub record IsDepthOfPart (g : KoreSignature) (b : Situation) (n : ℕ) : Type 0 where
  pub part : SymbolicTerm
  pub sourced : IsSourcedPart g b.state b.rules b.put part
  pub sort : KoreSort
  pub placed : IsPlaced g sort part
  pub is_depth : n ≡ term_depth (written_term g sort part)

abbrev pub IsShown : KoreSignature → Situation → List RuleShape → (Valuation → Type 0) → Undecided → Type 0
IsShown g b rules IsAsked (unknown_clauses p) = IsUnknownPredicate g b (shown_clauses g p) × IsUndecidedAt g b IsAsked
IsShown g b rules IsAsked (weight_passed p w n) = IsHeavyPredicate g b rules (shown_clauses g p) w n
IsShown g b rules IsAsked (wide_number f m n) =
    Overflows (meaning_of g f) m n × IsSourcedPart g b.state b.rules b.put (headed f (next_term (known (whole m)) (next_term (known (whole n)) no_terms)))
IsShown g b rules IsAsked (deep n) = (most_depth < n) × IsDepthOfPart g b n

-- the limits that states of any kind may pass
abbrev pub IsLimitOfTerms : Undecided → Type 0
IsLimitOfTerms (wide_number f m n) = ⊤
IsLimitOfTerms (deep n) = ⊤
IsLimitOfTerms u = ⊥
