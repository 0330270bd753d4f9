-- The rules that have their turn on a state's instances, as they are found one after the other.
-- Source: the K framework (priorities, owise).
use Rattle.std.specs.Prelude.{◌≡◌, ◌⊎◌, ◌<◌, ℕ, List, [], ◌∷◌, Some, ⊤}
use Rattle.std.specs.List.{AllByRecursion, Contains}
use Rattle.kp_kore.specs.Syntax.{Text}
use Rattle.kp_kore.specs.Parts.{free_variables}
use Rattle.kp_kore.specs.Rules.{Rewrite, rewrite, RewriteRule}
use Rattle.kp_kore.specs.Theory.{Theory}
use Rattle.kp_kore.specs.Steps.{HasTurn, AnyByRecursion}
use Rattle.kp_symbolic.specs.Terms.{Replaced, term_variables}
use Rattle.kp_symbolic.specs.WellFormed.{AreAtHand, AreWellPlaced}
use Rattle.kp_symbolic.specs.States.{Literal}
use Rattle.kp_symbolic_laws.specs.Safe.{PutNormal}
use Rattle.kp_rules.specs.Skeletons.{Form}
use Rattle.kp_case_laws.specs.Parts.{StatePart, OfEachInstance}
use Rattle.kp_case_laws.specs.Cases.{IsMetBy, left_side}
use Rattle.kp_case_laws.specs.Courses.{IsBoundTo}
use Rattle.kp_rules.specs.LeftSides.{IsLeftSide, IsOverLeft}
use Rattle.kp_unify.specs.Narrowed.{NumberedPart}
use Rattle.kp_step.specs.Meets.{MeetsRule, AllMeet, IsLaidBy}
use Rattle.kp_step.specs.Places.{IsAt}
use Rattle.kp_step.specs.ReadyParts.{HasInstance, parts_of}
use Rattle.kp_step.specs.Remainders.{AreUntaken}

-- the rule of a place, its number, its parts, and what its variables stand for there
pub record PlacedTurn : Type 0 where
  pub place : ℕ
  pub priority : ℕ
  pub parts : List NumberedPart
  pub bindings : List Replaced

-- the rule of a turn's place, which is read
abbrev pub IsRuleAt : Theory → PlacedTurn → RewriteRule → Type 0
IsRuleAt t k r = IsAt t k.place r × (r.priority ≡ k.priority) × (m : Rewrite) × (r.body ≡ rewrite m)

-- the left side is the rule's, and meets the part m by these bindings; each variable of the left term stands for a term of its
-- sort, in normal form and of variables at hand
pub record IsMetIn (t : Theory) (read : Rewrite) (bindings : List Replaced) (m : StatePart) : Type 0 where
  pub form : Form
  pub left : IsLeftSide t.signature read form
  pub over : IsOverLeft read
  pub equations : List (List Literal)
  pub is_met : IsMetBy t.signature (left_side t.signature form) (record { part = m; equations = equations; bindings = bindings })
  pub laid : IsLaidBy t.signature read bindings m
  pub bound : AllByRecursion (IsBoundTo t.signature m bindings) (free_variables read.left)
  pub at_hand : AllByRecursion (λ b. AreAtHand (term_variables b.term) m.state.variables) bindings
  pub placed : AreWellPlaced t.signature bindings (free_variables read.left)
  pub normal : PutNormal t.signature bindings

-- the rule of the place is read, and its parts, of which there are some, each with an instance, are those that the rules found
-- before leave to it; all of these rules meet the state
pub record IsTurnAt (t : Theory) (used : List Text) (s : StatePart) (k : PlacedTurn) : Type 0 where
  pub rule : RewriteRule
  pub at : IsAt t k.place rule
  pub number : rule.priority ≡ k.priority
  pub read : Rewrite
  pub body : rule.body ≡ rewrite read
  pub met_part : StatePart
  pub is_met : IsMetIn t read k.bindings met_part
  pub before : List RewriteRule
  pub of_theory : AllByRecursion (Contains t.rules) before
  pub meets : MeetsRule t.signature s.state rule.body
  pub before_meet : AllMeet t.signature s.state before
  pub left : AreUntaken t.signature used (Some rule) before s met_part k.parts
  pub some : ¬ (k.parts ≡ [])
  pub instances : AllByRecursion (HasInstance t.signature) (parts_of k.parts)

-- and of those found in all, each of a smaller number was found before
pub record IsTurnAmong (t : Theory) (used : List Text) (s : StatePart) (turns : List PlacedTurn) (k : PlacedTurn) : Type 0 where
  pub turn : IsTurnAt t used s k
  pub after : AllByRecursion (λ n. n.priority < k.priority → (r : RewriteRule) → IsAt t n.place r → Contains turn.before r) turns

-- a rule was tried: it is found, or has no turn
abbrev pub IsTried : Theory → StatePart → List PlacedTurn → ℕ → Type 0
IsTried t s turns place = (r : RewriteRule) → IsAt t place r → AnyByRecursion (λ k. k.place ≡ place) turns ⊎ OfEachInstance t.signature s (λ w c. ¬ HasTurn t r c)

-- each rule that goes before that of the place was tried, where that is read
abbrev pub AreTriedBefore : Theory → StatePart → List PlacedTurn → ℕ → Type 0
AreTriedBefore t s turns place = (r : RewriteRule) (m : Rewrite) → IsAt t place r → r.body ≡ rewrite m → (i : ℕ) (q : RewriteRule) → IsAt t i q → q.priority < r.priority →
    AnyByRecursion (λ k. k.place ≡ i) turns ⊎ OfEachInstance t.signature s (λ w c. ¬ HasTurn t q c)

-- no two are of one place
abbrev pub HaveOwnPlaces : List PlacedTurn → Type 0
HaveOwnPlaces [] = ⊤
HaveOwnPlaces (k ∷ ks) = AllByRecursion (λ n. ¬ (n.place ≡ k.place)) ks × HaveOwnPlaces ks

-- the turns that are found among the rules of these places
pub record AreFound (t : Theory) (used : List Text) (s : StatePart) (places : List ℕ) (turns : List PlacedTurn) : Type 0 where
  pub each : AllByRecursion (IsTurnAmong t used s turns) turns
  pub tried : AllByRecursion (IsTried t s turns) places
  pub among : AllByRecursion (λ k. Contains places k.place) turns
  pub own_places : HaveOwnPlaces turns

-- the turns that are found among all rules
pub record AreAllFound (t : Theory) (used : List Text) (s : StatePart) (turns : List PlacedTurn) : Type 0 where
  pub each : AllByRecursion (IsTurnAmong t used s turns) turns
  pub tried : (place : ℕ) → IsTried t s turns place
  pub own_places : HaveOwnPlaces turns
