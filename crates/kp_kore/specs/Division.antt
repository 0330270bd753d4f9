-- Parts of a state, and what it is that they divide it.
-- Source: this project.
use Rattle.std.specs.Prelude.{◌↔◌, List}
use Rattle.std.specs.List.{AllByRecursion}
use Rattle.kp_kore.specs.Syntax.{KorePattern}
use Rattle.kp_kore.specs.Parts.{SortedName}
use Rattle.kp_kore.specs.Signature.{KoreSignature}
use Rattle.kp_kore.specs.Value.{Value}
use Rattle.kp_kore.specs.Instance.{Valuation, GivesSorts, AgreesOn, IsInstance, IsTrueUnder}
use Rattle.kp_kore.specs.Rules.{RuleBody}
use Rattle.kp_kore.specs.Steps.{Fires}
use Rattle.kp_kore.specs.Cases.{OfOneAlone}
use Rattle.kp_kore.specs.Scopes.{IsWithin}

-- what a state and its parts are read as: the variables at hand, the instances, what was added to the state that it is a
-- part of
pub record Reading (X : Type 0) : Type 1 where
  pub scope : X → List SortedName
  pub has : X → Valuation → Value → Type 0
  pub added : X → Valuation → Type 0

-- p has the instances of s under which what was added is true, and one choice of its new variables for each
pub record IsPartOf {X : Type 0} (m : Reading X) (g : KoreSignature) (s p : X) : Type 0 where
  pub within : IsWithin g (m.scope s) (m.scope p)
  pub same : (w : Valuation) (c : Value) → GivesSorts g w (m.scope p) → m.has p w c ↔ (m.has s w c × m.added p w)
  pub alone : (w x : Valuation) → GivesSorts g w (m.scope p) → GivesSorts g x (m.scope p) → AgreesOn (m.scope s) w x → m.added p w → m.added p x → AgreesOn (m.scope p) w x

-- under some values of its new variables p has the instance
pub record IsHeldBy {X : Type 0} (m : Reading X) (g : KoreSignature) (s p : X) (v : Valuation) (c : Value) : Type 0 where
  pub chosen : Valuation
  pub agrees : AgreesOn (m.scope s) v chosen
  pub sorts : GivesSorts g chosen (m.scope p)
  pub met : m.has p chosen c

-- the instances of s of which Q holds are each in exactly one part
abbrev pub Divides : {X : Type 0} → Reading X → KoreSignature → (Value → Type 0) → X → List X → Type 0
Divides m g Q s ps = (v : Valuation) (c : Value) → GivesSorts g v (m.scope s) → m.has s v c → Q c → OfOneAlone (λ p. IsHeldBy m g s p v c) ps

-- ---- parts as patterns

-- a state and the predicate that was added
pub record Part : Type 0 where
  pub scope : List SortedName
  pub state : KorePattern
  pub added : KorePattern

abbrev pub reading : KoreSignature → Reading Part
reading g = record {
  scope = λ p. p.scope;
  has = λ p v c. IsInstance g v p.state c;
  added = λ p v. IsTrueUnder g v p.added;
}

-- none of these rules fires
abbrev pub NoneOf : KoreSignature → List RuleBody → Value → Type 0
NoneOf g bodies c = AllByRecursion (λ b. ¬ Fires g b c) bodies
