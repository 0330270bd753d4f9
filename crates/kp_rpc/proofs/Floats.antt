-- The trees that are written for sorts and patterns have no float, so their text is exact.
use Rattle.std.proofs.Common.{◌≡◌, false, Option, Some, None, option_map, refl, sym, ap, ◌∙◌}
use Rattle.serde_json.specs.Data.{Data, Items}
use Rattle.serde_json.specs.Written.{has_float, items_have_float}
use Rattle.kp_kore.specs.Syntax.{KoreSort, sort_of, sort_variable, KoreSorts, no_sorts, next_sort, KorePattern, KorePatterns, variable, application, literal, top, bottom, negation, conjunction, disjunction, implication, equivalence, rewriting, exists, forall, ceil, floor, equals, membership, no_patterns, next_pattern}
use Rattle.kp_json.specs.Written.{sort_tree, sort_trees, one_part, one_list, first_and_rest, two_parts, of_two_or_more, pattern_tree, pattern_trees, wrapped, wrapped_pattern}

mutual
  sort_plain : (s : KoreSort) → has_float (sort_tree s) ≡ false
  sort_plain (sort_of name ss) = rw (sorts_plain ss) refl
  sort_plain (sort_variable name) = refl

  sorts_plain : (ss : KoreSorts) → items_have_float (sort_trees ss) ≡ false
  sorts_plain no_sorts = refl
  sorts_plain (next_sort s ss) = rw (sort_plain s, sorts_plain ss) refl

-- a tree, where there is one, has no float
abbrev pub IsPlain : Option Data → Type 0
IsPlain None = Unit {0}
IsPlain (Some d) = has_float d ≡ false

abbrev ArePlain : Option Items → Type 0
ArePlain None = Unit {0}
ArePlain (Some ds) = items_have_float ds ≡ false

pub one_plain : (make : Data → Data) (x : Option Data) → ((d : Data) → has_float d ≡ false → has_float (make d) ≡ false) → IsPlain x → IsPlain (one_part make x)
one_plain make None keeps h = tt
one_plain make (Some d) keeps h = keeps d h

list_plain : (make : Items → Data) (x : Option Items) → ((ds : Items) → items_have_float ds ≡ false → has_float (make ds) ≡ false) → ArePlain x → IsPlain (one_list make x)
list_plain make None keeps h = tt
list_plain make (Some ds) keeps h = keeps ds h

pub two_plain : (make : Data → Data → Data) (x y : Option Data) → ((d e : Data) → has_float d ≡ false → has_float e ≡ false → has_float (make d e) ≡ false) → IsPlain x → IsPlain y → IsPlain (two_parts make x y)
two_plain make None y keeps h k = tt
two_plain make (Some d) None keeps h k = tt
two_plain make (Some d) (Some e) keeps h k = keeps d e h k

two_or_more_plain : (ps : KorePatterns) (x : Option Items) → ArePlain x → ArePlain (of_two_or_more ps x)
two_or_more_plain no_patterns x h = tt
two_or_more_plain (next_pattern p no_patterns) x h = tt
two_or_more_plain (next_pattern p (next_pattern q ps)) x h = h

rest_plain : (x : Option Data) (y : Option Items) → IsPlain x → ArePlain y → ArePlain (first_and_rest x y)
rest_plain None y h k = tt
rest_plain (Some d) None h k = tt
rest_plain (Some d) (Some ds) h k = rw (h, k) refl

mutual
  pattern_plain : (p : KorePattern) → IsPlain (pattern_tree p)
  pattern_plain (variable x s) = rw (sort_plain s) refl
  pattern_plain (application f ss ps) = list_plain _ (pattern_trees ps) (λ ds h. rw (h, sorts_plain ss) refl) (patterns_plain ps)
  pattern_plain (literal s text) = rw (sort_plain s) refl
  pattern_plain (top s) = rw (sort_plain s) refl
  pattern_plain (bottom s) = rw (sort_plain s) refl
  pattern_plain (negation s p) = one_plain _ (pattern_tree p) (λ d h. rw (h, sort_plain s) refl) (pattern_plain p)
  pattern_plain (conjunction s ps) = list_plain _ (of_two_or_more ps (pattern_trees ps)) (λ ds h. rw (h, sort_plain s) refl) (two_or_more_plain ps (pattern_trees ps) (patterns_plain ps))
  pattern_plain (disjunction s ps) = list_plain _ (of_two_or_more ps (pattern_trees ps)) (λ ds h. rw (h, sort_plain s) refl) (two_or_more_plain ps (pattern_trees ps) (patterns_plain ps))
  pattern_plain (implication s p q) = two_plain _ (pattern_tree p) (pattern_tree q) (λ d e h k. rw (h, k, sort_plain s) refl) (pattern_plain p) (pattern_plain q)
  pattern_plain (equivalence s p q) = two_plain _ (pattern_tree p) (pattern_tree q) (λ d e h k. rw (h, k, sort_plain s) refl) (pattern_plain p) (pattern_plain q)
  pattern_plain (rewriting s p q) = two_plain _ (pattern_tree p) (pattern_tree q) (λ d e h k. rw (h, k, sort_plain s) refl) (pattern_plain p) (pattern_plain q)
  pattern_plain (exists s x t p) = one_plain _ (pattern_tree p) (λ d h. rw (h, sort_plain s, sort_plain t) refl) (pattern_plain p)
  pattern_plain (forall s x t p) = one_plain _ (pattern_tree p) (λ d h. rw (h, sort_plain s, sort_plain t) refl) (pattern_plain p)
  pattern_plain (ceil a s p) = one_plain _ (pattern_tree p) (λ d h. rw (h, sort_plain a, sort_plain s) refl) (pattern_plain p)
  pattern_plain (floor a s p) = one_plain _ (pattern_tree p) (λ d h. rw (h, sort_plain a, sort_plain s) refl) (pattern_plain p)
  pattern_plain (equals a s p q) = two_plain _ (pattern_tree p) (pattern_tree q) (λ d e h k. rw (h, k, sort_plain a, sort_plain s) refl) (pattern_plain p) (pattern_plain q)
  pattern_plain (membership a s p q) = two_plain _ (pattern_tree p) (pattern_tree q) (λ d e h k. rw (h, k, sort_plain a, sort_plain s) refl) (pattern_plain p) (pattern_plain q)
  pattern_plain _ = tt

  patterns_plain : (ps : KorePatterns) → ArePlain (pattern_trees ps)
  patterns_plain no_patterns = refl
  patterns_plain (next_pattern p ps) = rest_plain (pattern_tree p) (pattern_trees ps) (pattern_plain p) (patterns_plain ps)

wrapper_plain : (x : Option Data) (d : Data) → IsPlain x → option_map wrapped x ≡ Some d → has_float d ≡ false
wrapper_plain None d h e = absurd (cc e)
wrapper_plain (Some t) d h e = let same : wrapped t ≡ d = cc e in ap has_float (sym same) ∙ rw h refl

wrapped_plain : (p : KorePattern) (d : Data) → wrapped_pattern p ≡ Some d → has_float d ≡ false
wrapped_plain p d e = wrapper_plain (pattern_tree p) d (pattern_plain p) e

pub wrapped_is_plain : (p : KorePattern) → IsPlain (wrapped_pattern p)
wrapped_is_plain p = one_plain wrapped (pattern_tree p) (λ d h. rw h refl) (pattern_plain p)

pub plain_is : (x : Option Data) (d : Data) → IsPlain x → Some d ≡ x → has_float d ≡ false
plain_is None d h e = absurd (cc e)
plain_is (Some t) d h e = let same : t ≡ d = cc e in ap has_float (sym same) ∙ h
