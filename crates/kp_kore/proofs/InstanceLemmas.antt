-- Instances of terms and of conjunctions.
use Rattle.std.proofs.Common.{◌≡◌, refl, sym, ◌∙◌, ap, ap₂, subst, Bool, true, false, ◌&&◌, List, [], ◌∷◌, ◌++◌, ◌↔◌}
use Rattle.std.specs.List.{AllByRecursion}
use Rattle.kp_kore.specs.Syntax.{Text, KoreSort, KoreSorts, KorePattern, KorePatterns, variable, application, literal, no_patterns, next_pattern}
use Rattle.kp_kore.specs.Parts.{SortedName, is_term, free_variables, all_free_variables}
use Rattle.kp_kore.specs.Signature.{KoreSignature, injection, meaning_of}
use Rattle.kp_kore.specs.Value.{Value, next_value}
use Rattle.kp_kore.specs.Forms.{injected}
use Rattle.kp_kore.specs.Instance.{Valuation, AgreesOn, instance, instances, applied, IsInstance, IsConjunctionInstance, IsInstanceOfOne, conjoined_terms, conjoined_predicates, IsTrueUnder}

-- ---- tests that are both true

pub first_true : (a b : Bool) → a && b ≡ true → a ≡ true
first_true true b h = refl
first_true false b h = cc

pub second_true : (a b : Bool) → a && b ≡ true → b ≡ true
second_true true b h = h
second_true false b h = cc

-- ---- a term has one instance

-- where a conjunction has this term and no predicates
one_of_lists : (g : KoreSignature) (v : Valuation) (p t : KorePattern) (u : Value) → conjoined_terms p ≡ t ∷ [] → conjoined_predicates p ≡ [] → IsConjunctionInstance g v p u ↔ (u ≡ instance g v t)
one_of_lists g v p t u e f = (
  (λ i. subst (λ ts. IsInstanceOfOne g v ts u) e i.term),
  (λ h. record {
    term = subst (λ ts. IsInstanceOfOne g v ts u) (sym e) h;
    predicates = subst (AllByRecursion (IsTrueUnder g v)) (sym f) tt;
  }),
)

pub one_instance : (g : KoreSignature) (v : Valuation) (t : KorePattern) (u : Value) → is_term t ≡ true → IsInstance g v t u ↔ (u ≡ instance g v t)
one_instance g v (variable x s) u h = (λ i. i.term, λ e. record { term = e; predicates = tt })
one_instance g v (literal s text) u h = (λ i. i.term, λ e. record { term = e; predicates = tt })
one_instance g v (application f ss ps) u h = one_of_lists g v (application f ss ps) (application f ss ps) u (rw h refl) (rw h refl)
one_instance g v _ u h = cc

-- ---- a conjunction has at most one

pub one_of_one : (g : KoreSignature) (v : Valuation) (ts : List KorePattern) (u w : Value) → IsInstanceOfOne g v ts u → IsInstanceOfOne g v ts w → u ≡ w
one_of_one g v [] u w i j = absurd i
one_of_one g v (t ∷ []) u w i j = i ∙ sym j
one_of_one g v (t ∷ s ∷ ts) u w i j = absurd i

pub at_most_one_instance : (g : KoreSignature) (v : Valuation) (p : KorePattern) (u w : Value) → IsConjunctionInstance g v p u → IsConjunctionInstance g v p w → u ≡ w
at_most_one_instance g v p u w i j = one_of_one g v (conjoined_terms p) u w i.term j.term

-- ---- valuations that agree on the variables give the same instance

pub agrees_first : (xs ys : List SortedName) (v w : Valuation) → AgreesOn (xs ++ ys) v w → AgreesOn xs v w
agrees_first [] ys v w h = tt
agrees_first (x ∷ xs) ys v w h = (h.0, agrees_first xs ys v w h.1)

pub agrees_second : (xs ys : List SortedName) (v w : Valuation) → AgreesOn (xs ++ ys) v w → AgreesOn ys v w
agrees_second [] ys v w h = h
agrees_second (x ∷ xs) ys v w h = agrees_second xs ys v w h.1

mutual
  pub same_instance : (g : KoreSignature) (v w : Valuation) (t : KorePattern) → AgreesOn (free_variables t) v w → instance g w t ≡ instance g v t
  same_instance g v w (variable x s) a = a.0
  same_instance g v w (application f ss ps) a = ap (applied (meaning_of g f) f) (same_instances g v w ps a)
  same_instance g v w _ a = refl

  pub same_instances : (g : KoreSignature) (v w : Valuation) (ps : KorePatterns) → AgreesOn (all_free_variables ps) v w → instances g w ps ≡ instances g v ps
  same_instances g v w no_patterns a = refl
  same_instances g v w (next_pattern p ps) a =
      ap₂ next_value
      (same_instance g v w p (agrees_first (free_variables p) (all_free_variables ps) v w a))
      (same_instances g v w ps (agrees_second (free_variables p) (all_free_variables ps) v w a))

-- a term without variables has one instance, whatever the valuation
pub closed_instance : (g : KoreSignature) (v w : Valuation) (t : KorePattern) → free_variables t ≡ [] → instance g w t ≡ instance g v t
closed_instance g v w t none = same_instance g v w t (agrees_on_none (free_variables t) none)
  where
    agrees_on_none : (xs : List SortedName) → xs ≡ [] → AgreesOn xs v w
    agrees_on_none [] e = tt
    agrees_on_none (x ∷ xs) e = cc

-- ---- inj

pub instance_under_inj : (g : KoreSignature) (v : Valuation) (f : Text) (ss : KoreSorts) (t : KorePattern) → meaning_of g f ≡ injection → instance g v (application f ss (next_pattern t no_patterns)) ≡ instance g v t
instance_under_inj g v f ss t e = rw e refl

-- inj through two sorts
pub instance_under_two_inj : (g : KoreSignature) (v : Valuation) (f : Text) (a b c : KoreSort) (t : KorePattern) → meaning_of g f ≡ injection → instance g v (injected f b c (injected f a b t)) ≡ instance g v (injected f a c t)
instance_under_two_inj g v f a b c t e = rw e refl
