-- The conjuncts of a pattern.
use Rattle.std.proofs.Common.{◌≡◌, refl, ap, Bool, true, false, ◌&&◌, List, [], ◌∷◌, ◌++◌}
use Rattle.std.specs.List.{AllByRecursion, filter}
use Rattle.kp_kore.specs.Syntax.{KorePattern, KorePatterns, variable, application, literal, conjunction, no_patterns, next_pattern}
use Rattle.kp_kore.specs.Parts.{is_term}
use Rattle.kp_kore.specs.Signature.{KoreSignature}
use Rattle.kp_kore.specs.View.{patterns_of}
use Rattle.kp_kore.specs.Instance.{Valuation, IsTrueUnder, AllTrueUnder, is_predicate, are_predicates, conjuncts, all_conjuncts}
use Rattle.kp_kore.proofs.ListLemmas.{all_append, all_left, all_right}

pub filter_append : {X : Type 0} (test : X → Bool) (xs ys : List X) → filter test (xs ++ ys) ≡ filter test xs ++ filter test ys
filter_append test [] ys = refl
filter_append test (x ∷ xs) ys = by_test (test x) refl (filter_append test xs ys)
  where
    by_test : (b : Bool) → test x ≡ b → filter test (xs ++ ys) ≡ filter test xs ++ filter test ys → filter test (x ∷ xs ++ ys) ≡ filter test (x ∷ xs) ++ filter test ys
    by_test true e rest = rw e (ap (λ zs. x ∷ zs) rest)
    by_test false e rest = rw e rest

pub filter_twice : {X : Type 0} (test : X → Bool) (xs : List X) → filter test (filter test xs) ≡ filter test xs
filter_twice test [] = refl
filter_twice test (x ∷ xs) = by_test (test x) refl (filter_twice test xs)
  where
    by_test : (b : Bool) → test x ≡ b → filter test (filter test xs) ≡ filter test xs → filter test (filter test (x ∷ xs)) ≡ filter test (x ∷ xs)
    by_test true e rest = rw e (rw e (ap (λ zs. x ∷ zs) rest))
    by_test false e rest = rw e rest

pub filter_other : {X : Type 0} (test other : X → Bool) (xs : List X) → AllByRecursion (λ x. other x ≡ true → test x ≡ false) xs → filter test (filter other xs) ≡ []
filter_other test other [] a = refl
filter_other test other (x ∷ xs) a = by_test (other x) refl (filter_other test other xs a.1)
  where
    by_test : (b : Bool) → other x ≡ b → filter test (filter other xs) ≡ [] → filter test (filter other (x ∷ xs)) ≡ []
    by_test true e rest = rw e (rw (a.0 e) rest)
    by_test false e rest = rw e rest

pub filter_none : {X : Type 0} (test : X → Bool) (xs : List X) → AllByRecursion (λ x. test x ≡ false) xs → filter test xs ≡ []
filter_none test [] a = refl
filter_none test (x ∷ xs) a = rw a.0 (filter_none test xs a.1)

pub filter_all : {X : Type 0} (test : X → Bool) (xs : List X) → AllByRecursion (λ x. test x ≡ true) xs → filter test xs ≡ xs
filter_all test [] a = refl
filter_all test (x ∷ xs) a = rw a.0 (ap (λ zs. x ∷ zs) (filter_all test xs a.1))

mutual
  pub single : (p : KorePattern) → AllByRecursion (λ q. conjuncts q ≡ q ∷ []) (conjuncts p)
  single (conjunction s ps) = all_single ps
  single _ = (refl, tt)

  all_single : (ps : KorePatterns) → AllByRecursion (λ q. conjuncts q ≡ q ∷ []) (all_conjuncts ps)
  all_single no_patterns = tt
  all_single (next_pattern p ps) = all_append (λ q. conjuncts q ≡ q ∷ []) (conjuncts p) (all_conjuncts ps) (single p) (all_single ps)

and_both : (a b : Bool) → a && b ≡ true → (a ≡ true) × (b ≡ true)
and_both true b h = (refl, h)
and_both false b h = absurd (cc)

mutual
  pub no_terms : (p : KorePattern) → is_predicate p ≡ true → AllByRecursion (λ q. is_term q ≡ false) (conjuncts p)
  no_terms (conjunction s ps) h = all_no_terms ps h
  no_terms (variable x s) h = absurd (cc)
  no_terms (literal s t) h = absurd (cc)
  no_terms (application f ss ps) h = absurd (cc)
  no_terms _ h = (refl, tt)

  all_no_terms : (ps : KorePatterns) → are_predicates ps ≡ true → AllByRecursion (λ q. is_term q ≡ false) (all_conjuncts ps)
  all_no_terms no_patterns h = tt
  all_no_terms (next_pattern p ps) h = let e : (is_predicate p ≡ true) × (are_predicates ps ≡ true) = and_both (is_predicate p) (are_predicates ps) h in
      all_append (λ q. is_term q ≡ false) (conjuncts p) (all_conjuncts ps) (no_terms p e.0) (all_no_terms ps e.1)

mutual
  pub truth_of : (g : KoreSignature) (v : Valuation) (p : KorePattern) → AllByRecursion (IsTrueUnder g v) (conjuncts p) → IsTrueUnder g v p
  truth_of g v (conjunction s ps) a = truths_of g v ps a
  truth_of g v _ a = a.0

  truths_of : (g : KoreSignature) (v : Valuation) (ps : KorePatterns) → AllByRecursion (IsTrueUnder g v) (all_conjuncts ps) → AllTrueUnder g v ps
  truths_of g v no_patterns a = tt
  truths_of g v (next_pattern p ps) a = (truth_of g v p (all_left (IsTrueUnder g v) (conjuncts p) (all_conjuncts ps) a), truths_of g v ps (all_right (IsTrueUnder g v) (conjuncts p) (all_conjuncts ps) a))

mutual
  pub of_truth : (g : KoreSignature) (v : Valuation) (p : KorePattern) → IsTrueUnder g v p → AllByRecursion (IsTrueUnder g v) (conjuncts p)
  of_truth g v (conjunction s ps) a = of_truths g v ps a
  of_truth g v _ a = (a, tt)

  of_truths : (g : KoreSignature) (v : Valuation) (ps : KorePatterns) → AllTrueUnder g v ps → AllByRecursion (IsTrueUnder g v) (all_conjuncts ps)
  of_truths g v no_patterns a = tt
  of_truths g v (next_pattern p ps) a = all_append (IsTrueUnder g v) (conjuncts p) (all_conjuncts ps) (of_truth g v p a.0) (of_truths g v ps a.1)

pub conjuncts_listed : (xs : List KorePattern) (ys : List KorePattern) → AllByRecursion (λ q. conjuncts q ≡ q ∷ []) xs → all_conjuncts (patterns_of (xs ++ ys)) ≡ xs ++ all_conjuncts (patterns_of ys)
conjuncts_listed [] ys a = refl
conjuncts_listed (x ∷ xs) ys a = rw a.0 (ap (λ zs. x ∷ zs) (conjuncts_listed xs ys a.1))
