-- When the results of implies and simplify are right.
-- Source: matching logic (a pattern implies another where each instance of the one is one of the other); the K Haskell
-- backend's JSON-RPC documentation (implies: valid, and the condition's predicate and substitution; simplify).
use Rattle.std.specs.Prelude.{◌≡◌, ◌↔◌, Some, [], ◌∷◌}
use Rattle.kp_kore.specs.Syntax.{KoreSort, KorePattern, top, bottom}
use Rattle.kp_kore.specs.Signature.{KoreSignature}
use Rattle.kp_kore.specs.Sorting.{sort_of_term}
use Rattle.kp_kore.specs.Value.{Value}
use Rattle.kp_kore.specs.Instance.{Valuation, GivesSorts, AgreesOff, IsInstance, IsTrueUnder, conjoined_terms}
use Rattle.kp_kore.specs.Rules.{top_binders, under_binders}
use Rattle.kp_kore.specs.Steps.{AnyByRecursion}
use Rattle.kp_kore.specs.Replies.{IsComputed}
use Rattle.kp_kore.specs.AtHand.{GivesAll, OfEach, OfSome, HasSome}

-- ---- implies

-- each instance of the antecedent is one of the consequent, whatever the free variables of both stand for
abbrev pub DoesImply : KoreSignature → KorePattern → KorePattern → Type 0
DoesImply g a c = OfEach g (c ∷ []) a (λ v u. IsInstance g v c u)

-- some instance of the antecedent is none of the consequent
abbrev pub HasCounterexample : KoreSignature → KorePattern → KorePattern → Type 0
HasCounterexample g a c = OfSome g (c ∷ []) a (λ v u. ¬ IsInstance g v c u)

-- w is v with values of their sorts for the variables that the consequent binds
pub record Chooses (g : KoreSignature) (c : KorePattern) (v w : Valuation) : Type 0 where
  pub agrees : AgreesOff (top_binders c) v w
  pub sorts : GivesSorts g w (top_binders c)

-- for each instance of the antecedent some values of the bound variables make the substitution true, and under all that
-- do the consequent's body has that instance
pub record IsWitness (g : KoreSignature) (a c substitution : KorePattern) : Type 0 where
  pub chosen : OfEach g (c ∷ []) a (λ v u. (w : Valuation) × Chooses g c v w × IsTrueUnder g w substitution)
  pub met : OfEach g (c ∷ []) a (λ v u. (w : Valuation) → Chooses g c v w → IsTrueUnder g w substitution → IsInstance g w (under_binders c) u)

-- the pattern's term has this sort
abbrev pub IsOfSort : KoreSignature → KoreSort → KorePattern → Type 0
IsOfSort g s p = AnyByRecursion (λ t. sort_of_term g t ≡ Some s) (conjoined_terms p)

-- The antecedent has the sort s. Where it has an instance, the predicate is \top{s}() and the substitution tells the values
-- of the bound variables: \top{s}() where there are none. Where it has none, the predicate is \bottom{s}() and the
-- substitution \top{s}().
pub data IsCondition (g : KoreSignature) (a c predicate substitution : KorePattern) : Type 0 where
  witnessed : (s : KoreSort) → IsOfSort g s a → HasSome g (c ∷ []) a → predicate ≡ top s →
      IsWitness g a c substitution → (top_binders c ≡ [] → substitution ≡ top s) → IsCondition g a c predicate substitution
  vacuous : (s : KoreSort) → IsOfSort g s a → ¬ HasSome g (c ∷ []) a → predicate ≡ bottom s → substitution ≡ top s → IsCondition g a c predicate substitution

pub data Implied : Type 0 where
  not_valid : Implied
  -- the condition's predicate and substitution
  valid : KorePattern → KorePattern → Implied

abbrev pub IsRightImplied : KoreSignature → KorePattern → KorePattern → Implied → Type 0
IsRightImplied g a c not_valid = HasCounterexample g a c
IsRightImplied g a c (valid predicate substitution) = DoesImply g a c × IsCondition g a c predicate substitution

-- ---- simplify

pub data Simplified : Type 0 where
  state : KorePattern → Simplified
  -- \bottom of this sort
  nothing : KoreSort → Simplified

-- for every valuation the same instances
abbrev pub HasSameInstances : KoreSignature → KorePattern → KorePattern → Type 0
HasSameInstances g s s' = (v : Valuation) (u : Value) → GivesAll g (s ∷ s' ∷ []) v → IsInstance g v s u ↔ IsInstance g v s' u

-- a state with the same instances, of which there is one, and no open call; \bottom where there are none
abbrev pub IsRightSimplified : KoreSignature → KorePattern → Simplified → Type 0
IsRightSimplified g s (state s') = HasSameInstances g s s' × HasSome g (s ∷ []) s' × IsComputed g s'
IsRightSimplified g s (nothing sort) = IsOfSort g sort s × ¬ HasSome g [] s
