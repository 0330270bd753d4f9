-- Which rules meet a state.
-- Source: unification of a left side with a configuration (K's Haskell backend), conditions dropped.
use Rattle.std.specs.Prelude.{List}
use Rattle.std.specs.List.{AllByRecursion}
use Rattle.kp_kore.specs.Signature.{KoreSignature}
use Rattle.kp_kore.specs.Value.{Value, HasSort}
use Rattle.kp_kore.specs.Instance.{Valuation}
use Rattle.kp_kore.specs.Rules.{Rewrite, RuleBody, rewrite, foreign_rule, RewriteRule}
use Rattle.kp_kore.specs.Foreign.{IsSkeletonInstance}
use Rattle.kp_symbolic.specs.Terms.{Replaced}
use Rattle.kp_symbolic.specs.States.{Literal, SymbolicState}
use Rattle.kp_symbolic.specs.Sources.{MayMean}
use Rattle.kp_rules.specs.LeftForms.{left_form}
use Rattle.kp_rules.specs.LeftSides.{IsLeftInstance}
use Rattle.kp_case_laws.specs.Parts.{StatePart}
use Rattle.kp_unify.specs.Way.{AreEquations}

-- the value is an instance of the rule's left side; a foreign one's skeleton stands for it
abbrev pub IsOfLeft : KoreSignature → RuleBody → Value → Type 0
IsOfLeft g (rewrite m) u = (v : Valuation) × IsLeftInstance g m v u
IsOfLeft g (foreign_rule l) u = IsSkeletonInstance g l u

-- some value of the state's sort is an instance of both, where each call in the state's term stands for any value of its sort
pub record MeetsRule (g : KoreSignature) (s : SymbolicState) (body : RuleBody) : Type 0 where
  pub value : Value
  pub sort : HasSort g s.sort value
  pub valuation : Valuation
  pub of_state : MayMean g valuation s.term value
  pub of_left : IsOfLeft g body value

-- each of these rules does
abbrev pub AllMeet : KoreSignature → SymbolicState → List RewriteRule → Type 0
AllMeet g s rules = AllByRecursion (λ r. MeetsRule g s r.body) rules

-- by form, the left side is the part's term, with these terms in the place of its variables, where the equations are true
pub record IsLaidBy (g : KoreSignature) (m : Rewrite) (bindings : List Replaced) (p : StatePart) : Type 0 where
  pub equations : List (List Literal)
  pub laid : AreEquations g (left_form g m.left) (record { part = p; equations = equations; bindings = bindings })
