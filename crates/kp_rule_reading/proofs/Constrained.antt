-- The right side of a rewrite axiom is a term beside predicates.
use Rattle.std.proofs.Common.{◌≡◌, refl, ap, sym, subst, Bool, true, false, not, cond, List, [], ◌∷◌, ◌++◌, Option, Some, None}
use Rattle.std.specs.List.{filter, AllByRecursion}
use Rattle.kp_kore.specs.Syntax.{KoreSort, KorePattern, KorePatterns, variable, set_variable, application, string_literal, literal, top, bottom, negation, next, conjunction, disjunction, implication, equivalence, rewriting, exists, forall, ceil, floor, equals, membership, mu, nu, no_patterns, next_pattern}
use Rattle.kp_kore.specs.Parts.{is_term}
use Rattle.kp_kore.specs.Instance.{conjuncts, all_conjuncts, conjoined_predicates}
use Rattle.kp_kore.specs.Rules.{Rewrite, constrained_term, under_binders, top_binders, have_distinct_names, new_variables_of, rewrite_of, joined}
use Rattle.kp_signature.proofs.SortLemmas.{same_inside}
use Rattle.kp_signature.proofs.RuleSides.{sides_of}
use Rattle.kp_rules.specs.Bodies.{IsLonePredicate, IsConstrained, is_conjunction}
use Rattle.kp_rule_reading.proofs.LeftTerms.{constrained_is_term}

abbrev IsAlone : KorePattern → Type 0
IsAlone p = is_conjunction p ≡ false

all_of_both : (ps qs : List KorePattern) → AllByRecursion IsAlone ps → AllByRecursion IsAlone qs → AllByRecursion IsAlone (ps ++ qs)
all_of_both [] qs h k = k
all_of_both (p ∷ ps) qs h k = (h.0, all_of_both ps qs h.1 k)

mutual
  conjuncts_alone : (p : KorePattern) → AllByRecursion IsAlone (conjuncts p)
  conjuncts_alone (conjunction s ps) = all_conjuncts_alone ps
  conjuncts_alone (variable x s) = (refl, tt)
  conjuncts_alone (set_variable x s) = (refl, tt)
  conjuncts_alone (application f ss ps) = (refl, tt)
  conjuncts_alone (string_literal t) = (refl, tt)
  conjuncts_alone (literal s t) = (refl, tt)
  conjuncts_alone (top s) = (refl, tt)
  conjuncts_alone (bottom s) = (refl, tt)
  conjuncts_alone (negation s p) = (refl, tt)
  conjuncts_alone (next s p) = (refl, tt)
  conjuncts_alone (disjunction s ps) = (refl, tt)
  conjuncts_alone (implication s p q) = (refl, tt)
  conjuncts_alone (equivalence s p q) = (refl, tt)
  conjuncts_alone (rewriting s p q) = (refl, tt)
  conjuncts_alone (exists s x t p) = (refl, tt)
  conjuncts_alone (forall s x t p) = (refl, tt)
  conjuncts_alone (ceil a s p) = (refl, tt)
  conjuncts_alone (floor a s p) = (refl, tt)
  conjuncts_alone (equals a s p q) = (refl, tt)
  conjuncts_alone (membership a s p q) = (refl, tt)
  conjuncts_alone (mu x s p) = (refl, tt)
  conjuncts_alone (nu x s p) = (refl, tt)

  all_conjuncts_alone : (ps : KorePatterns) → AllByRecursion IsAlone (all_conjuncts ps)
  all_conjuncts_alone no_patterns = tt
  all_conjuncts_alone (next_pattern p ps) = all_of_both (conjuncts p) (all_conjuncts ps) (conjuncts_alone p) (all_conjuncts_alone ps)

lone_among : (ps : List KorePattern) → AllByRecursion IsAlone ps → AllByRecursion IsLonePredicate (filter (λ q. not (is_term q)) ps)
lone_among [] h = tt
lone_among (p ∷ ps) h = by (is_term p) refl (lone_among ps h.1)
  where
    by : (b : Bool) → is_term p ≡ b → AllByRecursion IsLonePredicate (filter (λ q. not (is_term q)) ps) →
        AllByRecursion IsLonePredicate (cond (not b) (p ∷ filter (λ q. not (is_term q)) ps) (filter (λ q. not (is_term q)) ps))
    by true e k = k
    by false e k = (record { no_term = e; no_conjunction = h.0 }, k)

ensured_joined : (l r : KorePattern) (m : Rewrite) (a b : Option KorePattern) → joined l r a b ≡ Some m → m.ensured ≡ conjoined_predicates (under_binders r)
ensured_joined l r m None b h = absurd (cc)
ensured_joined l r m (Some t) None h = absurd (cc)
ensured_joined l r m (Some t) (Some u) h = sym (ap (λ w. w.ensured) (same_inside made m h))
  where
    made : Rewrite
    made = record { left = t; condition = conjoined_predicates l; new_variables = new_variables_of t r; right = u; ensured = conjoined_predicates (under_binders r) }

ensured_of : (s : KoreSort) (l r : KorePattern) (m : Rewrite) → rewrite_of (rewriting s l r) ≡ Some m → m.ensured ≡ conjoined_predicates (under_binders r)
ensured_of s l r m e = by (have_distinct_names (top_binders r)) e
  where
    by : (b : Bool) → cond b (joined l r (constrained_term l) (constrained_term (under_binders r))) None ≡ Some m → m.ensured ≡ conjoined_predicates (under_binders r)
    by true h = ensured_joined l r m (constrained_term l) (constrained_term (under_binders r)) h
    by false h = absurd (cc)

pub is_constrained : (s : KoreSort) (l r : KorePattern) (m : Rewrite) → rewrite_of (rewriting s l r) ≡ Some m → IsConstrained m
is_constrained s l r m h = record {
  right = constrained_is_term (under_binders r) m.right (sides_of s l r m h).right;
  ensured = subst (AllByRecursion IsLonePredicate) (sym (ensured_of s l r m h)) (lone_among (conjuncts (under_binders r)) (conjuncts_alone (under_binders r)));
}
