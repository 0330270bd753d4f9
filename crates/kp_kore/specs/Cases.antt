-- The cases of a state, and its next states.
-- Source: the K framework (priorities, owise); the K Haskell backend's JSON-RPC documentation (execute: next-states,
-- rule-id, rule-predicate).
use Rattle.std.specs.Prelude.{◌≡◌, ◌⊎◌, true, Option, Some, None, List, [], ◌∷◌, ◌++◌}
use Rattle.std.specs.List.{AllByRecursion}
use Rattle.kp_kore.specs.Syntax.{Text, KorePattern}
use Rattle.kp_kore.specs.Parts.{SortedName, free_variables}
use Rattle.kp_kore.specs.Value.{Value}
use Rattle.kp_kore.specs.Instance.{Valuation, IsInstance, is_predicate}
use Rattle.kp_kore.specs.Theory.{Theory}
use Rattle.kp_kore.specs.Steps.{AnyByRecursion, HasTurn, StepsBy, IsUnknown, NoneFires}
use Rattle.kp_kore.specs.AtHand.{GivesAll, OfEach, OfSome, IsOver, IsTrueOver, HasNewNames}

-- ---- cases

-- the rule of this id has its turn; with no id, no rule fires
abbrev pub IsCase : Theory → Option Text → Value → Type 0
IsCase t (Some id) c = AnyByRecursion (λ r. (r.id ≡ id) × HasTurn t r c) t.rules
IsCase t None c = NoneFires t c

-- what follows in a case: what the rule leads to, or the configuration itself
abbrev pub GoesTo : Theory → Option Text → Value → Value → Type 0
GoesTo t (Some id) c next = AnyByRecursion (λ r. (r.id ≡ id) × StepsBy t r c next) t.rules
GoesTo t None c next = NoneFires t c × (next ≡ c)

-- two cases are those of some instances
pub record HasTwoCases (t : Theory) (others : List KorePattern) (s : KorePattern) : Type 0 where
  pub one : Option Text
  pub other : Option Text
  pub differ : ¬ (one ≡ other)
  pub first : OfSome t.signature others s (λ v c. IsCase t one c)
  pub second : OfSome t.signature others s (λ v c. IsCase t other c)

-- the rule of this id has its turn, no other has, and no foreign rule might rewrite the configuration
pub record HasTurnAlone (t : Theory) (id : Text) (c : Value) : Type 0 where
  pub known : ¬ IsUnknown t c
  pub turn : IsCase t (Some id) c
  pub alone : AllByRecursion (λ r. HasTurn t r c → r.id ≡ id) t.rules

-- ---- next states

-- a case (its rule's id; none where no rule fires), when it is this one, and the state in it
pub record NextState : Type 0 where
  pub rule : Option Text
  pub predicate : KorePattern
  pub state : KorePattern

-- P of one place and of no other
abbrev pub OfOneAlone : {X : Type 0} → (X → Type 0) → List X → Type 0
OfOneAlone P [] = ⊥
OfOneAlone P (x ∷ xs) = (P x × AllByRecursion (λ y. ¬ P y) xs) ⊎ ((¬ P x) × OfOneAlone P xs)

-- each instance of s in a case makes the predicate of exactly one next state of that case true; each predicate is true
-- only in its case, and somewhere
pub record AreParts (t : Theory) (others : List KorePattern) (s : KorePattern) (nexts : List NextState) : Type 0 where
  pub divided : OfEach t.signature others s (λ v c. (case : Option Text) → IsCase t case c →
      OfOneAlone (λ n. (n.rule ≡ case) × IsTrueOver t.signature s v n.predicate) nexts)
  pub only : AllByRecursion (λ n. OfEach t.signature others s (λ v c. IsTrueOver t.signature s v n.predicate → IsCase t n.rule c)) nexts
  pub held : AllByRecursion (λ n. OfSome t.signature others s (λ v c. IsTrueOver t.signature s v n.predicate)) nexts

-- for every valuation, the next states of a case have together exactly what follows in it
pub record FollowExactly (t : Theory) (others : List KorePattern) (s : KorePattern) (nexts : List NextState) : Type 0 where
  pub found : OfEach t.signature others s (λ v c. (case : Option Text) (next : Value) → GoesTo t case c next →
      AnyByRecursion (λ n. (n.rule ≡ case) × IsOver t.signature s v n.state next) nexts)
  pub only : AllByRecursion (λ n. (v : Valuation) (next : Value) → GivesAll t.signature (s ∷ others) v → IsOver t.signature s v n.state next →
      (c : Value) × IsInstance t.signature v s c × GoesTo t n.rule c next) nexts

-- a name has one sort
abbrev pub HaveOneSort : List SortedName → Type 0
HaveOneSort xs = AllByRecursion (λ x. AllByRecursion (λ y. x.name ≡ y.name → x.sort ≡ y.sort) xs) xs

-- the next states of s, where the request is at hand
pub record AreNextStates (t : Theory) (request s : KorePattern) (nexts : List NextState) : Type 0 where
  pub parts : AreParts t (request ∷ []) s nexts
  pub follow : FollowExactly t (request ∷ []) s nexts
  pub names : AllByRecursion (λ n. HasNewNames request s n.state × HasNewNames request s n.predicate) nexts
  pub predicates : AllByRecursion (λ n. is_predicate n.predicate ≡ true) nexts
  pub one_sort : AllByRecursion (λ n. HaveOneSort (free_variables s ++ (free_variables n.state ++ free_variables n.predicate))) nexts
