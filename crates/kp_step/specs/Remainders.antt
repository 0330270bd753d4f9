-- Parts of a state that rules leave to a rule or to none, while the rules are gone through.
-- Source: the K framework (priorities, owise); K's Haskell backend (remainders).
use Rattle.std.specs.Prelude.{◌≡◌, ◌⊎◌, ◌<◌, ℕ, List, [], ◌∷◌, ◌++◌, Option, Some, None, ⊤}
use Rattle.std.specs.List.{AllByRecursion, Contains}
use Rattle.kp_kore.specs.Syntax.{Text}
use Rattle.kp_kore.specs.Signature.{KoreSignature}
use Rattle.kp_kore.specs.Rules.{RuleBody, RewriteRule}
use Rattle.kp_kore.specs.Theory.{Theory}
use Rattle.kp_kore.specs.Steps.{Fires}
use Rattle.kp_symbolic.specs.WellFormed.{AreAtHand}
use Rattle.kp_case_laws.specs.Parts.{StatePart, OfEachInstance, IsPartBelow, IsGrown}
use Rattle.kp_case_laws.specs.Firing.{HasNoInstance, AreWhere, AreDividedSoFar}
use Rattle.kp_case_laws.specs.Turns.{RemainsTo}
use Rattle.kp_unify.specs.Narrowed.{NumberedPart}
use Rattle.kp_step.specs.Comes.{ComesFrom}
use Rattle.kp_step.specs.ReadyParts.{IsReadyPart, HasInstance, parts_of}

-- a part of s, and of the part m of it, to go on with
pub record IsPartIn (g : KoreSignature) (used : List Text) (s m : StatePart) (q : NumberedPart) : Type 0 where
  pub below : IsPartBelow g m q.part
  pub at_hand : AreAtHand m.state.variables q.part.state.variables
  pub grown : IsGrown g used s q.part
  pub ready : IsReadyPart g used q

-- the rule to which something is left, or one of those that take
abbrev pub IsOneOf : Option RewriteRule → List RewriteRule → RuleBody → Type 0
IsOneOf o turns b = (r : RewriteRule) × (Contains turns r ⊎ (o ≡ Some r)) × (r.body ≡ b)

-- a rule of the theory
abbrev pub IsOfTheory : Theory → RuleBody → Type 0
IsOfTheory t b = (r : RewriteRule) × Contains t.rules r × (r.body ≡ b)

-- the part comes of s and of these rules
abbrev pub IsOfThese : KoreSignature → Option RewriteRule → List RewriteRule → StatePart → NumberedPart → Type 0
IsOfThese g o turns s q = ComesFrom g (IsOneOf o turns) s q.part

-- the parts of s, all in m, that these rules leave to the rule, or to none
pub record AreUntaken (g : KoreSignature) (used : List Text) (o : Option RewriteRule) (turns : List RewriteRule) (s m : StatePart) (parts : List NumberedPart) : Type 0 where
  pub left : AreWhere g (RemainsTo g o turns) s (parts_of parts)
  pub each : AllByRecursion (IsPartIn g used s m) parts
  pub comes : AllByRecursion (IsOfThese g o turns s) parts

-- the same while the rule q takes from them: those that are done, and those that wait
pub record RemainSoFar (g : KoreSignature) (used : List Text) (o : Option RewriteRule) (turns : List RewriteRule) (q : RewriteRule) (s m : StatePart) (done waiting : List NumberedPart) : Type 0 where
  pub left : AreDividedSoFar g (RemainsTo g o turns) (λ c. ¬ Fires g q.body c) s (parts_of done) (parts_of waiting)
  pub each_done : AllByRecursion (IsPartIn g used s m) done
  pub each_waiting : AllByRecursion (IsPartIn g used s m) waiting
  pub comes_done : AllByRecursion (IsOfThese g o (turns ++ q ∷ []) s) done
  pub comes_waiting : AllByRecursion (IsOfThese g o (turns ++ q ∷ []) s) waiting

-- the rule of this number takes from what is left to one of that number, or to none
abbrev pub TakesBy : ℕ → Option ℕ → Type 0
TakesBy n (Some m) = n < m
TakesBy n None = ⊤

-- the number is that of the rule to which something is left, if there is one
abbrev pub IsNumberOf : Option ℕ → Option RewriteRule → Type 0
IsNumberOf (Some n) (Some r) = r.priority ≡ n
IsNumberOf None None = ⊤
IsNumberOf n o = ⊥

-- where one rule alone takes from the parts, and nothing of them is left, it fires on each of their instances
abbrev pub OneTakesAll : KoreSignature → List RewriteRule → List NumberedPart → List NumberedPart → Type 0
OneTakesAll g (q ∷ []) parts left = AllByRecursion (HasNoInstance g) (parts_of left) → AllByRecursion (λ p. OfEachInstance g p (λ w c. Fires g q.body c)) (parts_of parts)
OneTakesAll g found parts left = ⊤

-- those of the parts that have an instance
pub data AreKept (g : KoreSignature) : List NumberedPart → List NumberedPart → Type 0 where
  none_left : AreKept g [] []
  is_kept : (q : NumberedPart) (ps ks : List NumberedPart) → HasInstance g q.part → AreKept g ps ks → AreKept g (q ∷ ps) (q ∷ ks)
  falls_away : (q : NumberedPart) (ps ks : List NumberedPart) → HasNoInstance g q.part → AreKept g ps ks → AreKept g (q ∷ ps) ks
