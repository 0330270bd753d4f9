-- Runs over a scope: the variables at hand along a run, of which more come and none goes, also where a state has lost one.
-- Source: matching logic (instances under valuations).
use Rattle.std.specs.Prelude.{ℕ, List}
use Rattle.kp_kore.specs.Syntax.{KorePattern}
use Rattle.kp_kore.specs.Parts.{SortedName, free_variables}
use Rattle.kp_kore.specs.Signature.{KoreSignature}
use Rattle.kp_kore.specs.Value.{Value}
use Rattle.kp_kore.specs.Instance.{Valuation, GivesSorts, AgreesOff, AgreesOn, IsInstance}
use Rattle.kp_kore.specs.Theory.{Theory}
use Rattle.kp_kore.specs.Steps.{StepsIn}
use Rattle.kp_kore.specs.Replies.{variables_beyond}

-- w agrees with v on the scope, and gives the variables of the greater scope values of their sorts
pub record Extends (g : KoreSignature) (scope greater : List SortedName) (v w : Valuation) : Type 0 where
  pub agrees : AgreesOn scope v w
  pub sorts : GivesSorts g w greater

-- for every valuation of the scope, the configurations d steps after the instance of s are exactly the instances of s'
-- under the valuations of the greater scope that extend it
pub record LeadsIn (t : Theory) (scope greater : List SortedName) (s s' : KorePattern) (d : ℕ) : Type 0 where
  pub found : (v : Valuation) (c later : Value) → GivesSorts t.signature v scope → IsInstance t.signature v s c → StepsIn t d c later →
      (w : Valuation) × Extends t.signature scope greater v w × IsInstance t.signature w s' later
  pub only : (v w : Valuation) (later : Value) → GivesSorts t.signature v scope → Extends t.signature scope greater v w → IsInstance t.signature w s' later →
      (c : Value) × IsInstance t.signature v s c × StepsIn t d c later

-- the first scope's variables are among the second's, each with its sort
pub record IsWithin (g : KoreSignature) (scope greater : List SortedName) : Type 0 where
  pub sorts : (w : Valuation) → GivesSorts g w greater → GivesSorts g w scope
  pub agree : (v w : Valuation) → AgreesOn greater v w → AgreesOn scope v w

-- Values of s, and of s' that agree with them off the new variables, are part of values of the greater scope: each variable
-- that neither has any more has a value of its sort.
abbrev pub AreExtended : KoreSignature → KorePattern → KorePattern → List SortedName → Type 0
AreExtended g s s' greater =
    (v w : Valuation) → GivesSorts g v (free_variables s) → GivesSorts g w (free_variables s') → AgreesOff (variables_beyond s s') v w →
    (x : Valuation) × Extends g (free_variables s) greater v x × AgreesOn (free_variables s') w x
