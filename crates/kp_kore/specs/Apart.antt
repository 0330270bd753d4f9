-- A pattern taken apart: what stands in it besides patterns, and the patterns directly below it. Together they are the pattern.
use Rattle.std.specs.Prelude.{◌≡◌, ℕ, []}
use Rattle.kp_kore.specs.Syntax.{Text, KoreSort, KoreSorts, no_sorts, next_sort, KorePattern, KorePatterns, no_patterns, next_pattern, variable, set_variable, application, string_literal, literal, top, bottom, negation, next, conjunction, disjunction, implication, equivalence, rewriting, exists, forall, ceil, floor, equals, membership, mu, nu}

-- the number of its form
abbrev pub form_of : KorePattern → ℕ
form_of (variable x s) = 0
form_of (set_variable x s) = 1
form_of (application f ss ps) = 2
form_of (string_literal t) = 3
form_of (literal s t) = 4
form_of (top s) = 5
form_of (bottom s) = 6
form_of (negation s p) = 7
form_of (next s p) = 8
form_of (conjunction s ps) = 9
form_of (disjunction s ps) = 10
form_of (implication s p q) = 11
form_of (equivalence s p q) = 12
form_of (rewriting s p q) = 13
form_of (exists s x t p) = 14
form_of (forall s x t p) = 15
form_of (ceil a s p) = 16
form_of (floor a s p) = 17
form_of (equals a s p q) = 18
form_of (membership a s p q) = 19
form_of (mu x s p) = 20
form_of (nu x s p) = 21

-- its name, symbol or text; of a form without one, nothing
abbrev pub text_of : KorePattern → Text
text_of (variable x s) = x
text_of (set_variable x s) = x
text_of (application f ss ps) = f
text_of (string_literal t) = t
text_of (literal s t) = t
text_of (top s) = []
text_of (bottom s) = []
text_of (negation s p) = []
text_of (next s p) = []
text_of (conjunction s ps) = []
text_of (disjunction s ps) = []
text_of (implication s p q) = []
text_of (equivalence s p q) = []
text_of (rewriting s p q) = []
text_of (exists s x t p) = x
text_of (forall s x t p) = x
text_of (ceil a s p) = []
text_of (floor a s p) = []
text_of (equals a s p q) = []
text_of (membership a s p q) = []
text_of (mu x s p) = x
text_of (nu x s p) = x

-- a list of one sort, and of one pattern
abbrev pub sort_alone : KoreSort → KoreSorts
sort_alone s = next_sort s no_sorts

abbrev pub pattern_alone : KorePattern → KorePatterns
pattern_alone p = next_pattern p no_patterns

-- its sorts: those of a symbol, or the first of one or two
abbrev pub first_sorts : KorePattern → KoreSorts
first_sorts (variable x s) = sort_alone s
first_sorts (set_variable x s) = sort_alone s
first_sorts (application f ss ps) = ss
first_sorts (string_literal t) = no_sorts
first_sorts (literal s t) = sort_alone s
first_sorts (top s) = sort_alone s
first_sorts (bottom s) = sort_alone s
first_sorts (negation s p) = sort_alone s
first_sorts (next s p) = sort_alone s
first_sorts (conjunction s ps) = sort_alone s
first_sorts (disjunction s ps) = sort_alone s
first_sorts (implication s p q) = sort_alone s
first_sorts (equivalence s p q) = sort_alone s
first_sorts (rewriting s p q) = sort_alone s
first_sorts (exists s x t p) = sort_alone s
first_sorts (forall s x t p) = sort_alone s
first_sorts (ceil a s p) = sort_alone a
first_sorts (floor a s p) = sort_alone a
first_sorts (equals a s p q) = sort_alone a
first_sorts (membership a s p q) = sort_alone a
first_sorts (mu x s p) = sort_alone s
first_sorts (nu x s p) = sort_alone s

-- the second of two sorts
abbrev pub second_sorts : KorePattern → KoreSorts
second_sorts (variable x s) = no_sorts
second_sorts (set_variable x s) = no_sorts
second_sorts (application f ss ps) = no_sorts
second_sorts (string_literal t) = no_sorts
second_sorts (literal s t) = no_sorts
second_sorts (top s) = no_sorts
second_sorts (bottom s) = no_sorts
second_sorts (negation s p) = no_sorts
second_sorts (next s p) = no_sorts
second_sorts (conjunction s ps) = no_sorts
second_sorts (disjunction s ps) = no_sorts
second_sorts (implication s p q) = no_sorts
second_sorts (equivalence s p q) = no_sorts
second_sorts (rewriting s p q) = no_sorts
second_sorts (exists s x t p) = sort_alone t
second_sorts (forall s x t p) = sort_alone t
second_sorts (ceil a s p) = sort_alone s
second_sorts (floor a s p) = sort_alone s
second_sorts (equals a s p q) = sort_alone s
second_sorts (membership a s p q) = sort_alone s
second_sorts (mu x s p) = no_sorts
second_sorts (nu x s p) = no_sorts

-- the patterns directly below it: all of a list, or the first of one or two
abbrev pub first_parts : KorePattern → KorePatterns
first_parts (variable x s) = no_patterns
first_parts (set_variable x s) = no_patterns
first_parts (application f ss ps) = ps
first_parts (string_literal t) = no_patterns
first_parts (literal s t) = no_patterns
first_parts (top s) = no_patterns
first_parts (bottom s) = no_patterns
first_parts (negation s p) = pattern_alone p
first_parts (next s p) = pattern_alone p
first_parts (conjunction s ps) = ps
first_parts (disjunction s ps) = ps
first_parts (implication s p q) = pattern_alone p
first_parts (equivalence s p q) = pattern_alone p
first_parts (rewriting s p q) = pattern_alone p
first_parts (exists s x t p) = pattern_alone p
first_parts (forall s x t p) = pattern_alone p
first_parts (ceil a s p) = pattern_alone p
first_parts (floor a s p) = pattern_alone p
first_parts (equals a s p q) = pattern_alone p
first_parts (membership a s p q) = pattern_alone p
first_parts (mu x s p) = pattern_alone p
first_parts (nu x s p) = pattern_alone p

-- the second of two patterns
abbrev pub second_parts : KorePattern → KorePatterns
second_parts (variable x s) = no_patterns
second_parts (set_variable x s) = no_patterns
second_parts (application f ss ps) = no_patterns
second_parts (string_literal t) = no_patterns
second_parts (literal s t) = no_patterns
second_parts (top s) = no_patterns
second_parts (bottom s) = no_patterns
second_parts (negation s p) = no_patterns
second_parts (next s p) = no_patterns
second_parts (conjunction s ps) = no_patterns
second_parts (disjunction s ps) = no_patterns
second_parts (implication s p q) = pattern_alone q
second_parts (equivalence s p q) = pattern_alone q
second_parts (rewriting s p q) = pattern_alone q
second_parts (exists s x t p) = no_patterns
second_parts (forall s x t p) = no_patterns
second_parts (ceil a s p) = no_patterns
second_parts (floor a s p) = no_patterns
second_parts (equals a s p q) = pattern_alone q
second_parts (membership a s p q) = pattern_alone q
second_parts (mu x s p) = no_patterns
second_parts (nu x s p) = no_patterns

-- that all that stands in two patterns besides patterns is the same
pub record HaveSameHeads (p q : KorePattern) : Type 0 where
  pub form : form_of p ≡ form_of q
  pub text : text_of p ≡ text_of q
  pub first : first_sorts p ≡ first_sorts q
  pub second : second_sorts p ≡ second_sorts q
