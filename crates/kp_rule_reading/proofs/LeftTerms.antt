-- The left term of a rewrite: it is a term, and stands in its axiom's pattern.
use Rattle.std.proofs.Common.{◌≡◌, refl, sym, ap, ◌∙◌, Bool, true, false, cond, List, [], ◌∷◌, ◌++◌, Option, Some, None}
use Rattle.std.specs.List.{list_all, filter}
use Rattle.std.specs.Option.{option_map}
use Rattle.std.proofs.lemmas.List.Folds.{list_all-append}
use Rattle.kp_kore.specs.Syntax.{KoreSort, KorePattern, KorePatterns, variable, set_variable, application, string_literal, literal, top, bottom, negation, next, conjunction, disjunction, implication, equivalence, rewriting, exists, forall, ceil, floor, equals, membership, mu, nu, no_patterns, next_pattern}
use Rattle.kp_kore.specs.Parts.{is_term, subpatterns, all_subpatterns}
use Rattle.kp_kore.specs.Instance.{conjuncts, all_conjuncts, is_predicate, conjoined_predicates, conjoined_terms}
use Rattle.kp_kore.specs.Rules.{Rewrite, rewrite_of, constrained_term, only_one, under_binders, top_binders, have_distinct_names, joined}
use Rattle.kp_rule_reading.proofs.ReadParts.{both_true, and_true}

pub left_is : (s : KoreSort) (l r : KorePattern) (m : Rewrite) → rewrite_of (rewriting s l r) ≡ Some m → constrained_term l ≡ Some m.left
left_is s l r m h = by (have_distinct_names (top_binders r)) (constrained_term l) (constrained_term (under_binders r)) h
  where
    by : (b : Bool) (x y : Option KorePattern) → cond b (joined l r x y) None ≡ Some m → x ≡ Some m.left
    by true (Some t) (Some u) k = ap (option_map (λ n. n.left)) k
    by true (Some t) None k = absurd (cc)
    by true None (Some u) k = absurd (cc)
    by true None None k = absurd (cc)
    by false x y k = absurd (cc)

-- what passes on all of a list passes on its one member
only_passes : (f : KorePattern → Bool) (ts : List KorePattern) (t : KorePattern) → list_all f ts ≡ true → only_one ts ≡ Some t → f t ≡ true
only_passes f [] t h e = absurd (cc)
only_passes f (u ∷ []) t h e = ap f (sym (ap (λ o. some_or o u) e)) ∙ (both_true (f u) true h).0
  where
    some_or : Option KorePattern → KorePattern → KorePattern
    some_or (Some x) y = x
    some_or None y = y
only_passes f (u ∷ w ∷ ts) t h e = absurd (cc)

all_filtered : (f : KorePattern → Bool) (ts : List KorePattern) → list_all f (filter f ts) ≡ true
all_filtered f [] = refl
all_filtered f (t ∷ ts) = by (f t) refl (all_filtered f ts)
  where
    by : (b : Bool) → f t ≡ b → list_all f (filter f ts) ≡ true → list_all f (cond b (t ∷ filter f ts) (filter f ts)) ≡ true
    by true e h = and_true (f t) (list_all f (filter f ts)) e h
    by false e h = h

pass_filtered : (f h : KorePattern → Bool) (ts : List KorePattern) → list_all f ts ≡ true → list_all f (filter h ts) ≡ true
pass_filtered f h [] k = refl
pass_filtered f h (t ∷ ts) k = let p = both_true (f t) (list_all f ts) k in by (h t) p.0 (pass_filtered f h ts p.1)
  where
    by : (b : Bool) → f t ≡ true → list_all f (filter h ts) ≡ true → list_all f (cond b (t ∷ filter h ts) (filter h ts)) ≡ true
    by true e k = and_true (f t) (list_all f (filter h ts)) e k
    by false e k = k

-- what passes on all parts of a pattern passes on all parts of its conjuncts
abbrev Passes : (KorePattern → Bool) → List KorePattern → Type 0
Passes f ps = list_all (λ p. list_all f (subpatterns p)) ps ≡ true

one_passes : (f : KorePattern → Bool) (p : KorePattern) → list_all f (subpatterns p) ≡ true → Passes f (p ∷ [])
one_passes f p h = and_true (list_all f (subpatterns p)) true h refl

mutual
  conjuncts_pass : (f : KorePattern → Bool) (p : KorePattern) → list_all f (subpatterns p) ≡ true → Passes f (conjuncts p)
  conjuncts_pass f (variable x s) h = one_passes f (variable x s) h
  conjuncts_pass f (set_variable x s) h = one_passes f (set_variable x s) h
  conjuncts_pass f (application c ss ps) h = one_passes f (application c ss ps) h
  conjuncts_pass f (string_literal t) h = one_passes f (string_literal t) h
  conjuncts_pass f (literal s t) h = one_passes f (literal s t) h
  conjuncts_pass f (top s) h = one_passes f (top s) h
  conjuncts_pass f (bottom s) h = one_passes f (bottom s) h
  conjuncts_pass f (negation s p) h = one_passes f (negation s p) h
  conjuncts_pass f (next s p) h = one_passes f (next s p) h
  conjuncts_pass f (conjunction s ps) h = all_conjuncts_pass f ps (both_true (f (conjunction s ps)) (list_all f (all_subpatterns ps)) h).1
  conjuncts_pass f (disjunction s ps) h = one_passes f (disjunction s ps) h
  conjuncts_pass f (implication s p q) h = one_passes f (implication s p q) h
  conjuncts_pass f (equivalence s p q) h = one_passes f (equivalence s p q) h
  conjuncts_pass f (rewriting s p q) h = one_passes f (rewriting s p q) h
  conjuncts_pass f (exists s x t p) h = one_passes f (exists s x t p) h
  conjuncts_pass f (forall s x t p) h = one_passes f (forall s x t p) h
  conjuncts_pass f (ceil a s p) h = one_passes f (ceil a s p) h
  conjuncts_pass f (floor a s p) h = one_passes f (floor a s p) h
  conjuncts_pass f (equals a s p q) h = one_passes f (equals a s p q) h
  conjuncts_pass f (membership a s p q) h = one_passes f (membership a s p q) h
  conjuncts_pass f (mu x s p) h = one_passes f (mu x s p) h
  conjuncts_pass f (nu x s p) h = one_passes f (nu x s p) h

  all_conjuncts_pass : (f : KorePattern → Bool) (ps : KorePatterns) → list_all f (all_subpatterns ps) ≡ true → Passes f (all_conjuncts ps)
  all_conjuncts_pass f no_patterns h = refl
  all_conjuncts_pass f (next_pattern p ps) h =
      let k = both_true (list_all f (subpatterns p)) (list_all f (all_subpatterns ps)) (sym (list_all-append f (subpatterns p) (all_subpatterns ps)) ∙ h) in
      list_all-append (λ q. list_all f (subpatterns q)) (conjuncts p) (all_conjuncts ps)
      ∙ and_true (list_all (λ q. list_all f (subpatterns q)) (conjuncts p)) (list_all (λ q. list_all f (subpatterns q)) (all_conjuncts ps)) (conjuncts_pass f p k.0) (all_conjuncts_pass f ps k.1)

one_of : (p t : KorePattern) → constrained_term p ≡ Some t → only_one (conjoined_terms p) ≡ Some t
one_of p t h = by (list_all is_predicate (conjoined_predicates p)) h
  where
    by : (b : Bool) → cond b (only_one (conjoined_terms p)) None ≡ Some t → only_one (conjoined_terms p) ≡ Some t
    by true k = k
    by false k = absurd (cc)

pub constrained_is_term : (p t : KorePattern) → constrained_term p ≡ Some t → is_term t ≡ true
constrained_is_term p t h = only_passes is_term (conjoined_terms p) t (all_filtered is_term (conjuncts p)) (one_of p t h)

pub constrained_passes : (f : KorePattern → Bool) (p t : KorePattern) → constrained_term p ≡ Some t → list_all f (subpatterns p) ≡ true → list_all f (subpatterns t) ≡ true
constrained_passes f p t h k = only_passes (λ q. list_all f (subpatterns q)) (conjoined_terms p) t (pass_filtered (λ q. list_all f (subpatterns q)) is_term (conjuncts p) (conjuncts_pass f p k)) (one_of p t h)

pub left_passes : (f : KorePattern → Bool) (s : KoreSort) (l r t : KorePattern) → constrained_term l ≡ Some t → list_all f (subpatterns (rewriting s l r)) ≡ true → list_all f (subpatterns t) ≡ true
left_passes f s l r t e h =
    let k = both_true (f (rewriting s l r)) (list_all f (subpatterns l ++ subpatterns r)) h in
    constrained_passes f l t e (both_true (list_all f (subpatterns l)) (list_all f (subpatterns r)) (sym (list_all-append f (subpatterns l) (subpatterns r)) ∙ k.1)).0
