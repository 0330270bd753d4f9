-- What may come next: the places in the grammar between two tokens, each with the token that it needs and the place
-- after it, and what is read by going from place to place. Where a value is read, the place after it depends on it.
use Rattle.std.specs.Prelude.{ℕ, suc, Bool, true, false, List, [], ◌∷◌, ◌++◌, Option, Some, None, ◌==◌, nat_le, codes, bytes_eq, if◌then◌else◌}
use Rattle.kp_kore.specs.Syntax.{Text, KoreSort, sort_of, sort_variable, KorePattern, KorePatterns, variable, set_variable, application, string_literal, literal, KoreSorts, KoreSentence, import_sentence, sort_sentence, symbol_sentence, alias_sentence, KoreModule, KoreDefinition}
use Rattle.kp_kore.specs.View.{sorts_of, patterns_of}
use Rattle.kp_text.specs.Tokens.{KoreToken, identifier, backslashed, string_token, mark, defined_as, Lexemes, finished, lexeme, broken, broken_string}
use Rattle.kp_text.specs.Grammar.{first_level, below, in_fold, first_in_fold, next_in_fold, constant_word, constant_meaning, unary_word, unary_meaning, variadic_word, variadic_meaning, binary_word, binary_meaning, quantifier_word, quantifier_meaning, rounding_word, rounding_meaning, comparison_word, comparison_meaning, fixed_point_word, fixed_point_meaning, side_word, fold_meaning, statement_meaning}
use Rattle.kp_text.specs.declared.fault.FaultKind.{FaultKind}
use Rattle.kp_text.specs.declared.fault.FaultKind.TheVariants as kind
use Rattle.kp_text.specs.declared.keyword.Constant.TheVariants.{Top, Bottom}
use Rattle.kp_text.specs.declared.keyword.Unary.TheVariants.{Not, Next}
use Rattle.kp_text.specs.declared.keyword.Variadic.TheVariants.{And, Or}
use Rattle.kp_text.specs.declared.keyword.Binary.TheVariants.{Implies, Iff, Rewrites}
use Rattle.kp_text.specs.declared.keyword.Quantifier.TheVariants.{Exists, Forall}
use Rattle.kp_text.specs.declared.keyword.Rounding.TheVariants.{Ceil, Floor}
use Rattle.kp_text.specs.declared.keyword.ComparisonKeyword.TheVariants.{Equals, In}
use Rattle.kp_text.specs.declared.keyword.FixedPoint.TheVariants.{Mu, Nu}
use Rattle.kp_text.specs.declared.level.Level.{Level}
use Rattle.kp_text.specs.declared.keyword.FoldSide.{FoldSide}
use Rattle.kp_text.specs.declared.keyword.FoldSide.TheVariants.{Left, Right}
use Rattle.kp_text.specs.declared.keyword.Keyword.{Keyword}
use Rattle.kp_text.specs.declared.keyword.Keyword.TheVariants as keyword

-- what is read in the end
pub data Answer : Type 0 where
  pattern_answer : KorePattern → Answer
  module_answer : KoreModule → Answer
  modules_answer : List KoreModule → Answer
  definition_answer : KoreDefinition → Answer

-- the places
pub data Place : Type 0 where
  -- the end
  done : Answer → Place
  -- a mark, :=, or a word, and then another place
  a_mark : ℕ → Place → Place
  a_defined_as : Place → Place
  a_word : Text → Place → Place
  -- an identifier, and a string
  a_name : (Text → Place) → Place
  a_string : (Text → Place) → Place
  -- a sort at a level of its own, and what may follow its name
  a_sort : ℕ → (KoreSort → Place) → Place
  after_sort_name : ℕ → Text → (KoreSort → Place) → Place
  -- sorts before a mark that closes them: the first or none, and more after some
  sorts : ℕ → ℕ → (List KoreSort → Place) → Place
  more_sorts : ℕ → ℕ → List KoreSort → (List KoreSort → Place) → Place
  -- names before a closing brace
  names : (List Text → Place) → Place
  more_names : List Text → (List Text → Place) → Place
  -- a pattern, and what may follow an identifier that begins one
  a_pattern : Level → (KorePattern → Place) → Place
  after_name : Level → Text → (KorePattern → Place) → Place
  -- patterns before a mark that closes them
  patterns : Level → ℕ → (List KorePattern → Place) → Place
  more_patterns : Level → ℕ → List KorePattern → (List KorePattern → Place) → Place
  -- what a fold holds, and more members of an application in it
  folded : Level → FoldSide → (KorePattern → Place) → Place
  more_folded : FoldSide → Text → KoreSorts → Level → KorePattern → List KorePattern → (KorePattern → Place) → Place
  -- sentences before endmodule, and modules before the end
  sentences : List KoreSentence → (List KoreSentence → Place) → Place
  more_modules : List KoreModule → (List KoreModule → Answer) → Place

-- what a token does at a place: nothing may come of it, or it reaches a level of nesting and leads to a place
pub data Step : Type 0 where
  refused : Step
  goes : ℕ → Place → Step

-- x:S
abbrev pub a_variable : (Text → KoreSort → Place) → Place
a_variable k = a_name (λ x. a_mark 58 (a_sort 1 (λ s. k x s)))

-- {S} and {A,S} and {}
abbrev pub a_braced_sort : (KoreSort → Place) → Place
a_braced_sort k = a_mark 123 (a_sort 1 (λ s. a_mark 125 (k s)))

abbrev pub two_braced : (KoreSort → KoreSort → Place) → Place
two_braced k = a_mark 123 (a_sort 1 (λ a. a_mark 44 (a_sort 1 (λ s. a_mark 125 (k a s)))))

abbrev pub no_braced : Place → Place
no_braced g = a_mark 123 (a_mark 125 g)

-- (p) and (p,q)
abbrev pub one_argument : Level → (KorePattern → Place) → Place
one_argument l k = a_mark 40 (a_pattern (below l) (λ p. a_mark 41 (k p)))

abbrev pub two_arguments : Level → (KorePattern → KorePattern → Place) → Place
two_arguments l k = a_mark 40 (a_pattern (below l) (λ p. a_mark 44 (a_pattern (below l) (λ q. a_mark 41 (k p q)))))

-- (p, q, ..)
abbrev pub arguments : Level → (List KorePattern → Place) → Place
arguments l k = a_mark 40 (patterns (below l) 41 k)

-- the words behind a backslash
abbrev pub keyword_of : Text → Option Keyword
keyword_of w =
    if bytes_eq w (constant_word Top) then Some (keyword.Constant Top)
    else if bytes_eq w (constant_word Bottom) then Some (keyword.Constant Bottom)
    else if bytes_eq w (unary_word Not) then Some (keyword.Unary Not)
    else if bytes_eq w (unary_word Next) then Some (keyword.Unary Next)
    else if bytes_eq w (variadic_word And) then Some (keyword.Variadic And)
    else if bytes_eq w (variadic_word Or) then Some (keyword.Variadic Or)
    else if bytes_eq w (binary_word Implies) then Some (keyword.Binary Implies)
    else if bytes_eq w (binary_word Iff) then Some (keyword.Binary Iff)
    else if bytes_eq w (binary_word Rewrites) then Some (keyword.Binary Rewrites)
    else if bytes_eq w (quantifier_word Exists) then Some (keyword.Quantifier Exists)
    else if bytes_eq w (quantifier_word Forall) then Some (keyword.Quantifier Forall)
    else if bytes_eq w (rounding_word Ceil) then Some (keyword.Rounding Ceil)
    else if bytes_eq w (rounding_word Floor) then Some (keyword.Rounding Floor)
    else if bytes_eq w (comparison_word Equals) then Some (keyword.Comparison Equals)
    else if bytes_eq w (comparison_word In) then Some (keyword.Comparison In)
    else if bytes_eq w (codes "dv") then Some keyword.Literal
    else if bytes_eq w (fixed_point_word Mu) then Some (keyword.FixedPoint Mu)
    else if bytes_eq w (fixed_point_word Nu) then Some (keyword.FixedPoint Nu)
    else if bytes_eq w (side_word Left) then Some (keyword.Fold Left)
    else if bytes_eq w (side_word Right) then Some (keyword.Fold Right)
    else None

-- what follows such a word
abbrev pub after_keyword : Level → (KorePattern → Place) → Keyword → Place
after_keyword l k (keyword.Constant c) = a_braced_sort (λ s. a_mark 40 (a_mark 41 (k (constant_meaning c s))))
after_keyword l k (keyword.Unary u) = a_braced_sort (λ s. one_argument l (λ p. k (unary_meaning u s p)))
after_keyword l k (keyword.Variadic v) = a_braced_sort (λ s. arguments l (λ ps. k (variadic_meaning v s ps)))
after_keyword l k (keyword.Binary b) = a_braced_sort (λ s. two_arguments l (λ p q. k (binary_meaning b s p q)))
after_keyword l k (keyword.Quantifier q) = a_braced_sort (λ s. a_mark 40 (a_variable (λ x t. a_mark 44 (a_pattern (below l) (λ p. a_mark 41 (k (quantifier_meaning q s x t p)))))))
after_keyword l k (keyword.Rounding r) = two_braced (λ a s. one_argument l (λ p. k (rounding_meaning r a s p)))
after_keyword l k (keyword.Comparison c) = two_braced (λ a s. two_arguments l (λ p q. k (comparison_meaning c a s p q)))
after_keyword l k keyword.Literal = a_braced_sort (λ s. a_mark 40 (a_string (λ t. a_mark 41 (k (literal s t)))))
after_keyword l k (keyword.FixedPoint f) = no_braced (a_mark 40 (a_mark 64 (a_variable (λ x s. a_mark 44 (a_pattern (below l) (λ p. a_mark 41 (k (fixed_point_meaning f x s p))))))))
after_keyword l k (keyword.Fold side) = no_braced (a_mark 40 (folded l side (λ p. a_mark 41 (k p))))

-- a step by a mark, by an identifier, by a string
abbrev pub by_mark : ℕ → KoreToken → Step → Step → Step
by_mark c (mark d) taken other = if d == c then taken else other
by_mark c (identifier x) taken other = other
by_mark c (backslashed x) taken other = other
by_mark c (string_token x) taken other = other
by_mark c defined_as taken other = other

abbrev pub by_defined_as : KoreToken → Step → Step
by_defined_as defined_as taken = taken
by_defined_as (mark d) taken = refused
by_defined_as (identifier x) taken = refused
by_defined_as (backslashed x) taken = refused
by_defined_as (string_token x) taken = refused

abbrev pub by_name : KoreToken → (Text → Step) → Step
by_name (identifier x) k = k x
by_name (mark d) k = refused
by_name (backslashed x) k = refused
by_name (string_token x) k = refused
by_name defined_as k = refused

abbrev pub by_string : KoreToken → (Text → Step) → Step
by_string (string_token x) k = k x
by_string (mark d) k = refused
by_string (identifier x) k = refused
by_string (backslashed x) k = refused
by_string defined_as k = refused

-- where a sort or a pattern may begin
abbrev pub by_sort : ℕ → (KoreSort → Place) → KoreToken → Step
by_sort n k t = by_name t (λ x. goes n (after_sort_name n x k))

abbrev pub by_keyword : Level → (KorePattern → Place) → Option Keyword → Step
by_keyword l k None = refused
by_keyword l k (Some w) = goes l.reached (after_keyword l k w)

abbrev pub by_pattern : Level → (KorePattern → Place) → KoreToken → Step
by_pattern l k (identifier x) = goes l.reached (after_name l x k)
by_pattern l k (mark c) = if c == 64 then goes l.reached (a_variable (λ x s. k (set_variable x s))) else refused
by_pattern l k (string_token t) = goes l.reached (k (string_literal t))
by_pattern l k (backslashed w) = by_keyword l k (keyword_of w)
by_pattern l k defined_as = refused

-- what a fold may hold
abbrev pub by_variadic : Level → (KorePattern → Place) → Option Keyword → Step
by_variadic l k None = refused
by_variadic l k (Some (keyword.Variadic v)) = goes (suc l.written) (a_braced_sort (λ s. arguments (in_fold l) (λ ps. k (variadic_meaning v s ps))))
by_variadic l k (Some w) = refused

abbrev pub by_folded : Level → FoldSide → (KorePattern → Place) → KoreToken → Step
by_folded l side k (identifier f) = goes (suc l.written) (a_mark 123 (sorts 1 125 (λ ss. a_mark 40 (a_pattern (first_in_fold l) (λ p. more_folded side f (sorts_of ss) l p [] k)))))
by_folded l side k (backslashed w) = by_variadic l k (keyword_of w)
by_folded l side k (mark c) = refused
by_folded l side k (string_token t) = refused
by_folded l side k defined_as = refused

-- attributes, and name{parameters}(sorts) : sort
abbrev pub an_attributes : (KorePatterns → Place) → Place
an_attributes k = a_mark 91 (patterns first_level 93 (λ ps. k (patterns_of ps)))

abbrev pub a_signature : (Text → List Text → KoreSorts → KoreSort → Place) → Place
a_signature k = a_name (λ x. a_mark 123 (names (λ xs. a_mark 40 (sorts 1 41 (λ ss. a_mark 58 (a_sort 1 (λ s. k x xs (sorts_of ss) s)))))))

-- what follows the word that begins a sentence
abbrev pub an_import : (KoreSentence → Place) → Place
an_import k = a_name (λ x. an_attributes (λ as_. k (import_sentence x as_)))

abbrev pub a_sort_declaration : Bool → (KoreSentence → Place) → Place
a_sort_declaration h k = a_name (λ x. a_mark 123 (names (λ xs. an_attributes (λ as_. k (sort_sentence (record { hooked = h; name = x; parameters = xs; attributes = as_ }))))))

abbrev pub a_symbol_declaration : Bool → (KoreSentence → Place) → Place
a_symbol_declaration h k = a_signature (λ x xs ss s. an_attributes (λ as_. k (symbol_sentence (record { hooked = h; name = x; parameters = xs; arguments = ss; result = s; attributes = as_ }))))

abbrev pub an_alias : (KoreSentence → Place) → Place
an_alias k = a_signature (λ x xs ss s. a_word (codes "where") (a_pattern first_level (λ p. a_defined_as (a_pattern first_level (λ q. an_attributes (λ as_. k (alias_sentence (record { name = x; parameters = xs; arguments = ss; result = s; left = p; right = q; attributes = as_ }))))))))

abbrev pub a_statement : Bool → (KoreSentence → Place) → Place
a_statement c k = a_mark 123 (names (λ xs. a_pattern first_level (λ p. an_attributes (λ as_. k (statement_meaning c xs p as_)))))

abbrev pub by_sentence : List KoreSentence → (List KoreSentence → Place) → Text → Step
by_sentence so_far k w =
    if bytes_eq w (codes "endmodule") then goes 0 (k so_far)
    else if bytes_eq w (codes "import") then goes 0 (an_import (λ s. sentences (so_far ++ s ∷ []) k))
    else if bytes_eq w (codes "sort") then goes 0 (a_sort_declaration false (λ s. sentences (so_far ++ s ∷ []) k))
    else if bytes_eq w (codes "hooked-sort") then goes 0 (a_sort_declaration true (λ s. sentences (so_far ++ s ∷ []) k))
    else if bytes_eq w (codes "symbol") then goes 0 (a_symbol_declaration false (λ s. sentences (so_far ++ s ∷ []) k))
    else if bytes_eq w (codes "hooked-symbol") then goes 0 (a_symbol_declaration true (λ s. sentences (so_far ++ s ∷ []) k))
    else if bytes_eq w (codes "alias") then goes 0 (an_alias (λ s. sentences (so_far ++ s ∷ []) k))
    else if bytes_eq w (codes "axiom") then goes 0 (a_statement false (λ s. sentences (so_far ++ s ∷ []) k))
    else if bytes_eq w (codes "claim") then goes 0 (a_statement true (λ s. sentences (so_far ++ s ∷ []) k))
    else refused

-- what follows the word module
abbrev pub after_module : (KoreModule → Place) → Place
after_module k = a_name (λ x. sentences [] (λ ss. an_attributes (λ as_. k (record { name = x; sentences = ss; attributes = as_ }))))

-- the step of a token at a place
abbrev pub step : Place → KoreToken → Step
step (done a) t = refused
step (a_mark c g) t = by_mark c t (goes 0 g) refused
step (a_defined_as g) t = by_defined_as t (goes 0 g)
step (a_word w g) t = by_name t (λ x. if bytes_eq x w then goes 0 g else refused)
step (a_name k) t = by_name t (λ x. goes 0 (k x))
step (a_string k) t = by_string t (λ x. goes 0 (k x))
step (a_sort n k) t = by_sort n k t
step (after_sort_name n x k) t = by_mark 123 t (goes 0 (sorts (suc n) 125 (λ ss. k (sort_of x (sorts_of ss))))) (step (k (sort_variable x)) t)
step (sorts n close k) t = by_mark close t (goes 0 (k [])) (by_sort n (λ s. more_sorts n close (s ∷ []) k) t)
step (more_sorts n close ss k) t = by_mark close t (goes 0 (k ss)) (by_mark 44 t (goes 0 (a_sort n (λ s. more_sorts n close (ss ++ s ∷ []) k))) refused)
step (names k) t = by_mark 125 t (goes 0 (k [])) (by_name t (λ x. goes 0 (more_names (x ∷ []) k)))
step (more_names xs k) t = by_mark 125 t (goes 0 (k xs)) (by_mark 44 t (goes 0 (a_name (λ x. more_names (xs ++ x ∷ []) k))) refused)
step (a_pattern l k) t = by_pattern l k t
step (after_name l x k) t = by_mark 123 t (goes 0 (sorts 1 125 (λ ss. arguments l (λ ps. k (application x (sorts_of ss) (patterns_of ps)))))) (by_mark 58 t (goes 0 (a_sort 1 (λ s. k (variable x s)))) refused)
step (patterns l close k) t = by_mark close t (goes 0 (k [])) (by_pattern l (λ p. more_patterns l close (p ∷ []) k) t)
step (more_patterns l close ps k) t = by_mark close t (goes 0 (k ps)) (by_mark 44 t (goes 0 (a_pattern l (λ p. more_patterns l close (ps ++ p ∷ []) k))) refused)
step (folded l side k) t = by_folded l side k t
step (more_folded side f ss l p ps k) t = by_mark 41 t (goes 0 (k (fold_meaning side f ss p ps))) (by_mark 44 t (goes 0 (a_pattern (next_in_fold side f ss l p ps) (λ q. more_folded side f ss l p (ps ++ q ∷ []) k))) refused)
step (sentences ss k) t = by_name t (by_sentence ss k)
step (more_modules ms answer) t = by_name t (λ x. if bytes_eq x (codes "module") then goes 0 (after_module (λ m. more_modules (ms ++ m ∷ []) answer)) else refused)

-- what is read: a value, or a fault, which stands where so many bytes are left
pub data Outcome : Type 0 where
  answered : Answer → Outcome
  faulty : ℕ → FaultKind → Outcome

-- at the end
abbrev pub at_end : Place → Outcome
at_end (done a) = answered a
at_end (after_sort_name n x k) = at_end (k (sort_variable x))
at_end (more_modules ms answer) = answered (answer ms)
at_end (a_mark c g) = faulty 0 kind.End
at_end (a_defined_as g) = faulty 0 kind.End
at_end (a_word w g) = faulty 0 kind.End
at_end (a_name k) = faulty 0 kind.End
at_end (a_string k) = faulty 0 kind.End
at_end (a_sort n k) = faulty 0 kind.End
at_end (sorts n close k) = faulty 0 kind.End
at_end (more_sorts n close ss k) = faulty 0 kind.End
at_end (names k) = faulty 0 kind.End
at_end (more_names xs k) = faulty 0 kind.End
at_end (a_pattern l k) = faulty 0 kind.End
at_end (after_name l x k) = faulty 0 kind.End
at_end (patterns l close k) = faulty 0 kind.End
at_end (more_patterns l close ps k) = faulty 0 kind.End
at_end (folded l side k) = faulty 0 kind.End
at_end (more_folded side f ss l p ps k) = faulty 0 kind.End
at_end (sentences ss k) = faulty 0 kind.End

-- after a step at a token that begins at a place: on is what is read from the next place on
abbrev pub stepped : (Place → Outcome) → ℕ → Step → Outcome
stepped on at refused = faulty at kind.Token
stepped on at (goes n g) = if nat_le n 256 then on g else faulty at kind.Deep

-- what is read from a place on
abbrev pub run : Lexemes → Place → Outcome
run finished = at_end
run (lexeme at t rest) = λ g. stepped (run rest) at (step g t)
run (broken at k) = λ g. faulty at k
run (broken_string quote at k) = λ g. stepped (λ h. faulty at k) quote (step g (string_token []))
