-- A free variable's name stands in its pattern.
use Rattle.std.proofs.Common.{◌≡◌, refl, sym, ◌∙◌, Bool, true, false, not, ◌||◌, List, [], ◌∷◌, ◌++◌, ◌⊎◌, inl, inr}
use Rattle.std.specs.List.{AllByRecursion, flat_map, list_any}
use Rattle.std.specs.Str.{bytes_eq}
use Rattle.kp_kore.specs.Syntax.{KorePattern, KorePatterns, variable, application, negation, next, conjunction, disjunction, implication, equivalence, rewriting, exists, forall, ceil, floor, equals, membership, mu, nu, no_patterns, next_pattern}
use Rattle.kp_kore.specs.Parts.{SortedName, free_variables, all_free_variables, subpatterns, all_subpatterns, names_at, variable_names}
use Rattle.kp_kore.proofs.ListLemmas.{all_append, all_map, all_filter}
use Rattle.kp_kore.proofs.NameLemmas.{same_bytes, true_is_false}

either : (a b : Bool) → b ≡ true → a || b ≡ true
either true b h = refl
either false b h = h

or_first : (a b : Bool) → a ≡ true → a || b ≡ true
or_first true b h = refl
or_first false b h = absurd (true_is_false (sym h))

any_append : {X : Type 0} (p : X → Bool) (xs ys : List X) → list_any p (xs ++ ys) ≡ list_any p xs || list_any p ys
any_append p [] ys = refl
any_append p (x ∷ xs) ys = by_test (p x) (any_append p xs ys)
  where
    by_test : (b : Bool) → list_any p (xs ++ ys) ≡ list_any p xs || list_any p ys → b || list_any p (xs ++ ys) ≡ (b || list_any p xs) || list_any p ys
    by_test true e = refl
    by_test false e = e

-- the name is one of those at these patterns
Stands : List KorePattern → SortedName → Type 0
Stands qs x = list_any (bytes_eq x.name) (flat_map names_at qs) ≡ true

stands_right : (ps qs : List KorePattern) (x : SortedName) → Stands qs x → Stands (ps ++ qs) x
unfolding Stands
stands_right [] qs x h = h
stands_right (p ∷ ps) qs x h = any_append (bytes_eq x.name) (names_at p) (flat_map names_at (ps ++ qs)) ∙ either (list_any (bytes_eq x.name) (names_at p)) (list_any (bytes_eq x.name) (flat_map names_at (ps ++ qs))) (stands_right ps qs x h)

or_split : (a b : Bool) → a || b ≡ true → (a ≡ true) ⊎ (b ≡ true)
or_split true b h = inl refl
or_split false b h = inr h

stands_left : (ps qs : List KorePattern) (x : SortedName) → Stands ps x → Stands (ps ++ qs) x
unfolding Stands
stands_left [] qs x h = absurd (cc)
stands_left (p ∷ ps) qs x h = any_append (bytes_eq x.name) (names_at p) (flat_map names_at (ps ++ qs)) ∙ (elim (or_split (list_any (bytes_eq x.name) (names_at p)) (list_any (bytes_eq x.name) (flat_map names_at ps)) (sym (any_append (bytes_eq x.name) (names_at p) (flat_map names_at ps)) ∙ h)) [
  | inl a ↦ or_first (list_any (bytes_eq x.name) (names_at p)) (list_any (bytes_eq x.name) (flat_map names_at (ps ++ qs))) a
  | inr b ↦ either (list_any (bytes_eq x.name) (names_at p)) (list_any (bytes_eq x.name) (flat_map names_at (ps ++ qs))) (stands_left ps qs x b)
])

both_stand : (ps qs : List KorePattern) (xs ys : List SortedName) → AllByRecursion (Stands ps) xs → AllByRecursion (Stands qs) ys → AllByRecursion (Stands (ps ++ qs)) (xs ++ ys)
both_stand ps qs xs ys a b = all_append (Stands (ps ++ qs)) xs ys (all_map (Stands ps) (Stands (ps ++ qs)) xs (stands_left ps qs) a) (all_map (Stands qs) (Stands (ps ++ qs)) ys (stands_right ps qs) b)

named_too : (q : KorePattern) (ps : List KorePattern) (xs : List SortedName) → AllByRecursion (Stands ps) xs → AllByRecursion (Stands (q ∷ ps)) xs
named_too q ps xs a = all_map (Stands ps) (Stands (q ∷ ps)) xs (stands_right (q ∷ []) ps) a

mutual
  unfolding Stands

  free_stands : (p : KorePattern) → AllByRecursion (Stands (subpatterns p)) (free_variables p)
  free_stands (variable x s) = (rw (same_bytes x) refl, tt)
  free_stands (application f ss ps) = all_free_stand ps
  free_stands (negation s p) = free_stands p
  free_stands (next s p) = free_stands p
  free_stands (conjunction s ps) = all_free_stand ps
  free_stands (disjunction s ps) = all_free_stand ps
  free_stands (implication s p q) = both_stand (subpatterns p) (subpatterns q) (free_variables p) (free_variables q) (free_stands p) (free_stands q)
  free_stands (equivalence s p q) = both_stand (subpatterns p) (subpatterns q) (free_variables p) (free_variables q) (free_stands p) (free_stands q)
  free_stands (rewriting s p q) = both_stand (subpatterns p) (subpatterns q) (free_variables p) (free_variables q) (free_stands p) (free_stands q)
  free_stands (exists s x t p) = all_filter (Stands (subpatterns (exists s x t p))) (λ y. not (bytes_eq y.name x)) (free_variables p) (named_too (exists s x t p) (subpatterns p) (free_variables p) (free_stands p))
  free_stands (forall s x t p) = all_filter (Stands (subpatterns (forall s x t p))) (λ y. not (bytes_eq y.name x)) (free_variables p) (named_too (forall s x t p) (subpatterns p) (free_variables p) (free_stands p))
  free_stands (ceil a s p) = free_stands p
  free_stands (floor a s p) = free_stands p
  free_stands (equals a s p q) = both_stand (subpatterns p) (subpatterns q) (free_variables p) (free_variables q) (free_stands p) (free_stands q)
  free_stands (membership a s p q) = both_stand (subpatterns p) (subpatterns q) (free_variables p) (free_variables q) (free_stands p) (free_stands q)
  free_stands (mu x s p) = named_too (mu x s p) (subpatterns p) (free_variables p) (free_stands p)
  free_stands (nu x s p) = named_too (nu x s p) (subpatterns p) (free_variables p) (free_stands p)
  free_stands _ = tt

  all_free_stand : (ps : KorePatterns) → AllByRecursion (Stands (all_subpatterns ps)) (all_free_variables ps)
  all_free_stand no_patterns = tt
  all_free_stand (next_pattern p ps) = both_stand (subpatterns p) (all_subpatterns ps) (free_variables p) (all_free_variables ps) (free_stands p) (all_free_stand ps)

pub free_stands_names : (s : KorePattern) → AllByRecursion (λ y. list_any (bytes_eq y.name) (variable_names s) ≡ true) (free_variables s)
unfolding Stands
free_stands_names s = free_stands s
