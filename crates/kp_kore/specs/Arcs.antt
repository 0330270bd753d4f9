-- What an arc of a proof's tree says of its node's state, and when a tree of such arcs proves a claim.
-- Source: pyk's KCFG (edge, split, cover, vacuous, stuck); All-Path Reachability Logic.
use Rattle.std.specs.Prelude.{◌≡◌, ℕ, ◌≤◌, List, Option}
use Rattle.std.specs.List.{AllByRecursion}
use Rattle.kp_kore.specs.Syntax.{Text, KorePattern}
use Rattle.kp_kore.specs.Parts.{free_variables}
use Rattle.kp_kore.specs.Value.{Value}
use Rattle.kp_kore.specs.Instance.{Valuation, GivesSorts, IsInstance}
use Rattle.kp_kore.specs.Theory.{Theory}
use Rattle.kp_kore.specs.Steps.{AnyByRecursion, IsUnknown, IsFinal}
use Rattle.kp_kore.specs.Claims.{ReachabilityClaim, IsReached}
use Rattle.kp_kore.specs.Replies.{After, IsFreshName, variables_beyond}
use Rattle.kp_kore.specs.AtHand.{IsOver}
use Rattle.kp_kore.specs.Cases.{GoesTo}

-- edge: one or more steps on is the child; no configuration before is final or has the turn of a listed rule
pub record EdgeSays (t : Theory) (listed : List Text) (s s' : KorePattern) (d : ℕ) : Type 0 where
  pub progress : 1 ≤ d
  pub after : After t listed s s' d

-- split: no instance is in none of the children, and the children have no others
pub record SplitSays (t : Theory) (s : KorePattern) (children : List KorePattern) : Type 0 where
  pub divides : (v : Valuation) (c : Value) → GivesSorts t.signature v (free_variables s) → IsInstance t.signature v s c →
      ¬ AllByRecursion (λ s'. ¬ IsOver t.signature s v s' c) children
  pub only : AllByRecursion (λ s'. (v : Valuation) (c : Value) → GivesSorts t.signature v (free_variables s) → IsOver t.signature s v s' c → IsInstance t.signature v s c) children
  pub names : AllByRecursion (λ s'. AllByRecursion (λ x. IsFreshName x.name) (variables_beyond s s')) children

-- a branch's child, and the id of the rule that leads to it: none where no rule fires
pub record BranchChild : Type 0 where
  pub state : KorePattern
  pub rule : Option Text

-- branch: no instance is unknown; what follows each instance is in a child by its rule, and where no rule fires the
-- instance is in a child without one; where there is an instance, the children have no others
pub record BranchSays (t : Theory) (s : KorePattern) (children : List BranchChild) : Type 0 where
  pub known : (v : Valuation) (c : Value) → GivesSorts t.signature v (free_variables s) → IsInstance t.signature v s c → ¬ IsUnknown t c
  pub found : (v : Valuation) (c next : Value) → GivesSorts t.signature v (free_variables s) → IsInstance t.signature v s c →
      (rule : Option Text) → GoesTo t rule c next → AnyByRecursion (λ k. (k.rule ≡ rule) × IsOver t.signature s v k.state next) children
  pub only : AllByRecursion (λ k. (v : Valuation) (c next : Value) → GivesSorts t.signature v (free_variables s) → IsInstance t.signature v s c →
      IsOver t.signature s v k.state next → (before : Value) × IsInstance t.signature v s before × GoesTo t k.rule before next) children
  pub names : AllByRecursion (λ k. AllByRecursion (λ x. IsFreshName x.name) (variables_beyond s k.state)) children

-- cover: each instance is one of the claim's right side under the same valuation of the left's variables
abbrev pub CoverSays : Theory → ReachabilityClaim → KorePattern → Type 0
CoverSays t claim s =
    (v : Valuation) (c : Value) → GivesSorts t.signature v (free_variables claim.left) → GivesSorts t.signature v (free_variables s) →
    IsInstance t.signature v s c → IsReached t.signature claim v c

-- vacuous: no instance, whatever the variables of the claim's left stand for
abbrev pub VacuousSays : Theory → ReachabilityClaim → KorePattern → Type 0
VacuousSays t claim s =
    (v : Valuation) (c : Value) → GivesSorts t.signature v (free_variables claim.left) → GivesSorts t.signature v (free_variables s) →
    ¬ IsInstance t.signature v s c

-- stuck: each instance is final
abbrev pub StuckSays : Theory → KorePattern → Type 0
StuckSays t s = (v : Valuation) (c : Value) → GivesSorts t.signature v (free_variables s) → IsInstance t.signature v s c → IsFinal t c

-- no variable of the claim's left side has a name that new variables have
abbrev pub HasNoFreshName : ReachabilityClaim → Type 0
HasNoFreshName claim = AllByRecursion (λ x. ¬ IsFreshName x.name) (free_variables claim.left)
