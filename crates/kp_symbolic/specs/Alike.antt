-- Whether two patterns, terms, literals or clauses are the same by form.
use Rattle.std.specs.Prelude.{Bool, true, false, ◌&&◌, List, [], ◌∷◌}
use Rattle.std.specs.Bool.{beq}
use Rattle.std.specs.Ordering.{int_eq}
use Rattle.std.specs.Str.{bytes_eq}
use Rattle.kp_kore.specs.Syntax.{KorePattern, KorePatterns, variable, set_variable, application, string_literal, literal, top, bottom, negation, next, conjunction, disjunction, implication, equivalence, rewriting, exists, forall, ceil, floor, equals, membership, mu, nu, no_patterns, next_pattern}
use Rattle.kp_kore.specs.Attributes.{sorts_equal, all_sorts_equal}
use Rattle.kp_kore.specs.Parts.{SortedName}
use Rattle.kp_kore.specs.Value.{values_same}
use Rattle.kp_symbolic.specs.Terms.{SymbolicTerm, unknown, offset, known, headed, SymbolicTerms, no_terms, next_term, Replaced}
use Rattle.kp_symbolic.specs.States.{HeadTest, one_head, head_of_sort, Atom, same, has_head, quoted, Literal}

abbrev mutual
  pub patterns_same : KorePattern → KorePattern → Bool
  patterns_same (variable x s) (variable y t) = bytes_eq x y && sorts_equal s t
  patterns_same (set_variable x s) (set_variable y t) = bytes_eq x y && sorts_equal s t
  patterns_same (application f ss ps) (application h ts qs) = bytes_eq f h && all_sorts_equal ss ts && all_patterns_same ps qs
  patterns_same (string_literal x) (string_literal y) = bytes_eq x y
  patterns_same (literal s x) (literal t y) = sorts_equal s t && bytes_eq x y
  patterns_same (top s) (top t) = sorts_equal s t
  patterns_same (bottom s) (bottom t) = sorts_equal s t
  patterns_same (negation s p) (negation t q) = sorts_equal s t && patterns_same p q
  patterns_same (next s p) (next t q) = sorts_equal s t && patterns_same p q
  patterns_same (conjunction s ps) (conjunction t qs) = sorts_equal s t && all_patterns_same ps qs
  patterns_same (disjunction s ps) (disjunction t qs) = sorts_equal s t && all_patterns_same ps qs
  patterns_same (implication s p o) (implication t q r) = sorts_equal s t && patterns_same p q && patterns_same o r
  patterns_same (equivalence s p o) (equivalence t q r) = sorts_equal s t && patterns_same p q && patterns_same o r
  patterns_same (rewriting s p o) (rewriting t q r) = sorts_equal s t && patterns_same p q && patterns_same o r
  patterns_same (exists s x a p) (exists t y b q) = sorts_equal s t && bytes_eq x y && sorts_equal a b && patterns_same p q
  patterns_same (forall s x a p) (forall t y b q) = sorts_equal s t && bytes_eq x y && sorts_equal a b && patterns_same p q
  patterns_same (ceil a s p) (ceil b t q) = sorts_equal a b && sorts_equal s t && patterns_same p q
  patterns_same (floor a s p) (floor b t q) = sorts_equal a b && sorts_equal s t && patterns_same p q
  patterns_same (equals a s p o) (equals b t q r) = sorts_equal a b && sorts_equal s t && patterns_same p q && patterns_same o r
  patterns_same (membership a s p o) (membership b t q r) = sorts_equal a b && sorts_equal s t && patterns_same p q && patterns_same o r
  patterns_same (mu x s p) (mu y t q) = bytes_eq x y && sorts_equal s t && patterns_same p q
  patterns_same (nu x s p) (nu y t q) = bytes_eq x y && sorts_equal s t && patterns_same p q
  patterns_same _ _ = false

  pub all_patterns_same : KorePatterns → KorePatterns → Bool
  all_patterns_same no_patterns no_patterns = true
  all_patterns_same (next_pattern p ps) (next_pattern q qs) = patterns_same p q && all_patterns_same ps qs
  all_patterns_same _ _ = false

abbrev pub names_same : SortedName → SortedName → Bool
names_same x y = bytes_eq x.name y.name && sorts_equal x.sort y.sort

abbrev mutual
  pub terms_same : SymbolicTerm → SymbolicTerm → Bool
  terms_same (unknown x) (unknown y) = names_same x y
  terms_same (offset x c) (offset y d) = names_same x y && int_eq c d
  terms_same (known u) (known w) = values_same u w
  terms_same (headed f ts) (headed h us) = bytes_eq f h && all_terms_same ts us
  terms_same _ _ = false

  pub all_terms_same : SymbolicTerms → SymbolicTerms → Bool
  all_terms_same no_terms no_terms = true
  all_terms_same (next_term t ts) (next_term u us) = terms_same t u && all_terms_same ts us
  all_terms_same _ _ = false

abbrev pub tests_same : HeadTest → HeadTest → Bool
tests_same (one_head c) (one_head d) = bytes_eq c d
tests_same (head_of_sort s) (head_of_sort t) = sorts_equal s t
tests_same _ _ = false

abbrev pub replacements_same : List Replaced → List Replaced → Bool
replacements_same [] [] = true
replacements_same (r ∷ rs) (q ∷ qs) = bytes_eq r.name q.name && terms_same r.term q.term && replacements_same rs qs
replacements_same _ _ = false

abbrev pub atoms_same : Atom → Atom → Bool
atoms_same (same s t u) (same a m n) = sorts_equal s a && terms_same t m && terms_same u n
atoms_same (has_head x test) (has_head y other) = names_same x y && tests_same test other
atoms_same (quoted p rs) (quoted q qs) = patterns_same p q && replacements_same rs qs
atoms_same _ _ = false

abbrev pub literals_same : Literal → Literal → Bool
literals_same l m = beq l.holds m.holds && atoms_same l.atom m.atom
