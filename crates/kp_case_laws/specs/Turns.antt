-- The rules that have their turn on a state's instances, and where.
-- Source: the K framework (priorities, owise).
use Rattle.std.specs.Prelude.{◌<◌, List, map, Option, Some, None, ⊤}
use Rattle.std.specs.List.{AllByRecursion, Contains}
use Rattle.kp_kore.specs.Signature.{KoreSignature}
use Rattle.kp_kore.specs.Value.{Value}
use Rattle.kp_kore.specs.Rules.{RewriteRule}
use Rattle.kp_kore.specs.Theory.{Theory}
use Rattle.kp_kore.specs.Steps.{Fires, HasTurn, NoneFires}
use Rattle.kp_case_laws.specs.Parts.{StatePart, OfEachInstance}
use Rattle.kp_case_laws.specs.Firing.{AreWhere}

-- of these rules none that goes before the rule fires
abbrev pub NoneGoesBefore : KoreSignature → List RewriteRule → RewriteRule → Value → Type 0
NoneGoesBefore g turns r c = AllByRecursion (λ q. q.priority < r.priority → ¬ Fires g q.body c) turns

-- the rule fires, and of these rules none before it
abbrev pub FiresFirst : KoreSignature → List RewriteRule → RewriteRule → Value → Type 0
FiresFirst g turns r c = Fires g r.body c × NoneGoesBefore g turns r c

-- none of these rules fires
abbrev pub NoneOfThese : KoreSignature → List RewriteRule → Value → Type 0
NoneOfThese g turns c = AllByRecursion (λ q. ¬ Fires g q.body c) turns

-- what these rules leave to a rule, and what they leave to none
abbrev pub RemainsTo : KoreSignature → Option RewriteRule → List RewriteRule → Value → Type 0
RemainsTo g (Some r) turns c = FiresFirst g turns r c
RemainsTo g None turns c = NoneOfThese g turns c

-- a rule takes from what is left to those of a greater number, and from what is left to none
abbrev pub TakesFrom : RewriteRule → Option RewriteRule → Type 0
TakesFrom q (Some r) = q.priority < r.priority
TakesFrom q None = ⊤

-- whatever rule has its turn on an instance of the part is one of these
abbrev pub AreAllTurns : Theory → StatePart → List RewriteRule → Type 0
AreAllTurns t p turns = OfEachInstance t.signature p (λ w c. (r : RewriteRule) → Contains t.rules r → HasTurn t r c → Contains turns r)

-- the parts of a state where a rule has its turn
pub record Turn : Type 0 where
  pub rule : RewriteRule
  pub parts : List StatePart

abbrev pub rules_of : List Turn → List RewriteRule
rules_of = map (λ x. x.rule)

-- the rules that have their turn somewhere, each with its parts, and the parts where no rule fires
pub record AreTurns (t : Theory) (p : StatePart) (turns : List Turn) (remainder : List StatePart) : Type 0 where
  pub rules : AllByRecursion (λ x. Contains t.rules x.rule) turns
  pub all : AreAllTurns t p (rules_of turns)
  pub parts : AllByRecursion (λ x. AreWhere t.signature (HasTurn t x.rule) p x.parts) turns
  pub remain : AreWhere t.signature (NoneFires t) p remainder
