-- Instances over the variables at hand: a valuation gives each variable of all patterns that are spoken of a value of its
-- sort. Where one of these sorts has no value there is no such valuation.
-- Source: matching logic (instances under valuations).
use Rattle.std.specs.Prelude.{List, ◌∷◌, ⊤}
use Rattle.std.specs.List.{AllByRecursion}
use Rattle.kp_kore.specs.Syntax.{KorePattern}
use Rattle.kp_kore.specs.Parts.{free_variables}
use Rattle.kp_kore.specs.Signature.{KoreSignature}
use Rattle.kp_kore.specs.Value.{Value}
use Rattle.kp_kore.specs.Instance.{Valuation, GivesSorts, AgreesOff, IsInstance, IsTrueUnder}
use Rattle.kp_kore.specs.Replies.{IsFreshName, IsAbsent, variables_beyond}

-- the variables of each of these patterns have values of their sorts
abbrev pub GivesAll : KoreSignature → List KorePattern → Valuation → Type 0
GivesAll g hand v = AllByRecursion (λ p. GivesSorts g v (free_variables p)) hand

-- of each instance of s, whatever the variables of s and of the other patterns at hand stand for
abbrev pub OfEach : KoreSignature → List KorePattern → KorePattern → (Valuation → Value → Type 0) → Type 0
OfEach g others s P = (v : Valuation) (c : Value) → GivesAll g (s ∷ others) v → IsInstance g v s c → P v c

-- of some instance of s, under such a valuation
pub record OfSome (g : KoreSignature) (others : List KorePattern) (s : KorePattern) (P : Valuation → Value → Type 0) : Type 0 where
  pub valuation : Valuation
  pub configuration : Value
  pub given : GivesAll g (s ∷ others) valuation
  pub met : IsInstance g valuation s configuration
  pub such : P valuation configuration

-- s has an instance
abbrev pub HasSome : KoreSignature → List KorePattern → KorePattern → Type 0
HasSome g others s = OfSome g others s (λ v c. ⊤)

-- ---- patterns over a state's valuation

-- for some values of the variables that s hasn't, c is an instance of p
pub record IsOver (g : KoreSignature) (s : KorePattern) (v : Valuation) (p : KorePattern) (c : Value) : Type 0 where
  pub chosen : Valuation
  pub agrees : AgreesOff (variables_beyond s p) v chosen
  pub sorts : GivesSorts g chosen (free_variables p)
  pub met : IsInstance g chosen p c

-- for some values of the variables that s hasn't, the predicate p is true
pub record IsTrueOver (g : KoreSignature) (s : KorePattern) (v : Valuation) (p : KorePattern) : Type 0 where
  pub chosen : Valuation
  pub agrees : AgreesOff (variables_beyond s p) v chosen
  pub sorts : GivesSorts g chosen (free_variables p)
  pub holds : IsTrueUnder g chosen p

-- the variables of p that s hasn't are named Fresh and a number, and don't stand in the request
abbrev pub HasNewNames : KorePattern → KorePattern → KorePattern → Type 0
HasNewNames request s p = AllByRecursion (λ x. IsFreshName x.name × IsAbsent x.name request) (variables_beyond s p)
