-- What a text can spell: names are identifiers, strings are UTF-8, sorts nest at most 256 levels, and \and and \or
-- have two members at least. A pattern of this kind is written in one plain way, without folds.
use Rattle.std.proofs.Common.{◌≡◌, ◌≤◌, refl, ap}
use Rattle.std.specs.Prelude.{IsUtf8}
use Rattle.kp_kore.specs.Syntax.{KoreSort, sort_of, sort_variable, KoreSorts, no_sorts, next_sort, KorePattern, KorePatterns, variable, set_variable, application, string_literal, literal, top, bottom, negation, next, conjunction, disjunction, implication, equivalence, rewriting, exists, forall, ceil, floor, equals, membership, mu, nu, no_patterns, next_pattern}
use Rattle.kp_kore.specs.Parts.{sort_nesting, most_sort_nesting}
use Rattle.kp_kore.specs.View.{patterns_of}
use Rattle.kp_text.specs.declared.keyword.Constant.TheVariants.{Top, Bottom}
use Rattle.kp_text.specs.declared.keyword.Unary.TheVariants.{Not, Next}
use Rattle.kp_text.specs.declared.keyword.Variadic.TheVariants.{And, Or}
use Rattle.kp_text.specs.declared.keyword.Binary.TheVariants.{Implies, Iff, Rewrites}
use Rattle.kp_text.specs.declared.keyword.Quantifier.TheVariants.{Exists, Forall}
use Rattle.kp_text.specs.declared.keyword.Rounding.TheVariants.{Ceil, Floor}
use Rattle.kp_text.specs.declared.keyword.ComparisonKeyword.TheVariants.{Equals, In}
use Rattle.kp_text.specs.declared.keyword.FixedPoint.TheVariants.{Mu, Nu}
use Rattle.kp_text.specs.Grammar.{Writing, Writings, written_variable, written_set_variable, written_application, written_string, written_literal, written_constant, written_unary, written_variadic, written_binary, written_quantifier, written_rounding, written_comparison, written_fixed_point, no_writings, next_writing, meaning, meanings, variadic_meaning}
use Rattle.kp_print.proofs.ReadTokens.{IsName}

abbrev mutual
  pub IsNamedSort : KoreSort → Type 0
  IsNamedSort (sort_of x ss) = IsName x × AreNamedSorts ss
  IsNamedSort (sort_variable x) = IsName x

  pub AreNamedSorts : KoreSorts → Type 0
  AreNamedSorts no_sorts = Unit
  AreNamedSorts (next_sort s ss) = IsNamedSort s × AreNamedSorts ss

pub record IsSort (s : KoreSort) : Type 0 where
  pub named : IsNamedSort s
  pub shallow : sort_nesting s ≤ 256

pub record AreSorts (ss : KoreSorts) : Type 0 where
  pub named : AreNamedSorts ss
  pub shallow : most_sort_nesting ss ≤ 256

abbrev pub AreTwoOrMore : KorePatterns → Type 0
AreTwoOrMore no_patterns = ⊥
AreTwoOrMore (next_pattern p no_patterns) = ⊥
AreTwoOrMore (next_pattern p (next_pattern q ps)) = Unit

abbrev mutual
  pub IsSpellable : KorePattern → Type 0
  IsSpellable (variable x s) = IsName x × IsSort s
  IsSpellable (set_variable x s) = IsName x × IsSort s
  IsSpellable (application f ss ps) = IsName f × AreSorts ss × AreSpellable ps
  IsSpellable (string_literal t) = IsUtf8 t
  IsSpellable (literal s t) = IsSort s × IsUtf8 t
  IsSpellable (top s) = IsSort s
  IsSpellable (bottom s) = IsSort s
  IsSpellable (negation s p) = IsSort s × IsSpellable p
  IsSpellable (next s p) = IsSort s × IsSpellable p
  IsSpellable (conjunction s ps) = IsSort s × AreTwoOrMore ps × AreSpellable ps
  IsSpellable (disjunction s ps) = IsSort s × AreTwoOrMore ps × AreSpellable ps
  IsSpellable (implication s p q) = IsSort s × IsSpellable p × IsSpellable q
  IsSpellable (equivalence s p q) = IsSort s × IsSpellable p × IsSpellable q
  IsSpellable (rewriting s p q) = IsSort s × IsSpellable p × IsSpellable q
  IsSpellable (exists s x t p) = IsSort s × IsName x × IsSort t × IsSpellable p
  IsSpellable (forall s x t p) = IsSort s × IsName x × IsSort t × IsSpellable p
  IsSpellable (ceil a s p) = IsSort a × IsSort s × IsSpellable p
  IsSpellable (floor a s p) = IsSort a × IsSort s × IsSpellable p
  IsSpellable (equals a s p q) = IsSort a × IsSort s × IsSpellable p × IsSpellable q
  IsSpellable (membership a s p q) = IsSort a × IsSort s × IsSpellable p × IsSpellable q
  IsSpellable (mu x s p) = IsName x × IsSort s × IsSpellable p
  IsSpellable (nu x s p) = IsName x × IsSort s × IsSpellable p

  pub AreSpellable : KorePatterns → Type 0
  AreSpellable no_patterns = Unit
  AreSpellable (next_pattern p ps) = IsSpellable p × AreSpellable ps

-- the plain way to write a pattern
abbrev mutual
  pub written : KorePattern → Writing
  written (variable x s) = written_variable x s
  written (set_variable x s) = written_set_variable x s
  written (application f ss ps) = written_application f ss (all_written ps)
  written (string_literal t) = written_string t
  written (literal s t) = written_literal s t
  written (top s) = written_constant Top s
  written (bottom s) = written_constant Bottom s
  written (negation s p) = written_unary Not s (written p)
  written (next s p) = written_unary Next s (written p)
  written (conjunction s ps) = written_variadic And s (all_written ps)
  written (disjunction s ps) = written_variadic Or s (all_written ps)
  written (implication s p q) = written_binary Implies s (written p) (written q)
  written (equivalence s p q) = written_binary Iff s (written p) (written q)
  written (rewriting s p q) = written_binary Rewrites s (written p) (written q)
  written (exists s x t p) = written_quantifier Exists s x t (written p)
  written (forall s x t p) = written_quantifier Forall s x t (written p)
  written (ceil a s p) = written_rounding Ceil a s (written p)
  written (floor a s p) = written_rounding Floor a s (written p)
  written (equals a s p q) = written_comparison Equals a s (written p) (written q)
  written (membership a s p q) = written_comparison In a s (written p) (written q)
  written (mu x s p) = written_fixed_point Mu x s (written p)
  written (nu x s p) = written_fixed_point Nu x s (written p)

  pub all_written : KorePatterns → Writings
  all_written no_patterns = no_writings
  all_written (next_pattern p ps) = next_writing (written p) (all_written ps)

-- \and and \or of two or more members
and_means : (s : KoreSort) (ps : KorePatterns) → AreTwoOrMore ps → patterns_of (meanings (all_written ps)) ≡ ps → variadic_meaning And s (meanings (all_written ps)) ≡ conjunction s ps
and_means s no_patterns two e = absurd two
and_means s (next_pattern p no_patterns) two e = absurd two
and_means s (next_pattern p (next_pattern q ps)) two e = ap (conjunction s) e

or_means : (s : KoreSort) (ps : KorePatterns) → AreTwoOrMore ps → patterns_of (meanings (all_written ps)) ≡ ps → variadic_meaning Or s (meanings (all_written ps)) ≡ disjunction s ps
or_means s no_patterns two e = absurd two
or_means s (next_pattern p no_patterns) two e = absurd two
or_means s (next_pattern p (next_pattern q ps)) two e = ap (disjunction s) e

mutual
  -- it means the pattern
  pub written_means : (p : KorePattern) → IsSpellable p → meaning (written p) ≡ p
  written_means (variable x s) h = refl
  written_means (set_variable x s) h = refl
  written_means (application f ss ps) h = ap (application f ss) (all_written_mean ps h.2)
  written_means (string_literal t) h = refl
  written_means (literal s t) h = refl
  written_means (top s) h = refl
  written_means (bottom s) h = refl
  written_means (negation s p) h = ap (negation s) (written_means p h.1)
  written_means (next s p) h = ap (next s) (written_means p h.1)
  written_means (conjunction s ps) h = and_means s ps h.1 (all_written_mean ps h.2)
  written_means (disjunction s ps) h = or_means s ps h.1 (all_written_mean ps h.2)
  written_means (implication s p q) h = rw (written_means p h.1, written_means q h.2) refl
  written_means (equivalence s p q) h = rw (written_means p h.1, written_means q h.2) refl
  written_means (rewriting s p q) h = rw (written_means p h.1, written_means q h.2) refl
  written_means (exists s x t p) h = ap (exists s x t) (written_means p h.3)
  written_means (forall s x t p) h = ap (forall s x t) (written_means p h.3)
  written_means (ceil a s p) h = ap (ceil a s) (written_means p h.2)
  written_means (floor a s p) h = ap (floor a s) (written_means p h.2)
  written_means (equals a s p q) h = rw (written_means p h.2, written_means q h.3) refl
  written_means (membership a s p q) h = rw (written_means p h.2, written_means q h.3) refl
  written_means (mu x s p) h = ap (mu x s) (written_means p h.2)
  written_means (nu x s p) h = ap (nu x s) (written_means p h.2)

  pub all_written_mean : (ps : KorePatterns) → AreSpellable ps → patterns_of (meanings (all_written ps)) ≡ ps
  all_written_mean no_patterns h = refl
  all_written_mean (next_pattern p ps) h = rw (written_means p h.0, all_written_mean ps h.1) refl
