-- The rules that have their turn are found by excluding those found before; where none of them fires, no rule does.
use Rattle.std.proofs.Common.{◌<◌, List, [], ◌∷◌, ◌++◌, Option, Some, None}
use Rattle.std.specs.List.{AllByRecursion, Contains}
use Rattle.kp_kore.specs.Signature.{KoreSignature}
use Rattle.kp_kore.specs.Value.{Value}
use Rattle.kp_kore.specs.Rules.{RewriteRule}
use Rattle.kp_kore.specs.Theory.{Theory}
use Rattle.kp_kore.specs.Steps.{Fires, HasTurn, NoneFires}
use Rattle.kp_kore.proofs.ListLemmas.{all_map}
use Rattle.kp_kore.proofs.TurnLemmas.{of_member, has_turn, none_fires}
use Rattle.kp_symbolic.proofs.Distribution.{all_both, all_first, all_second}
use Rattle.kp_case_laws.specs.Parts.{StatePart, OfEachInstance, IsTold}
use Rattle.kp_case_laws.specs.Firing.{AreWhere, AreDividedSoFar}
use Rattle.kp_case_laws.specs.Turns.{FiresFirst, NoneOfThese, RemainsTo, TakesFrom, AreAllTurns}
use Rattle.kp_case_laws.proofs.PartsWhere.{all_of_it, said_otherwise, arrives}

-- ---- what is left, rule by rule

pub left_to_none : (g : KoreSignature) (p : StatePart) → IsTold g p → AreWhere g (RemainsTo g None []) p (p ∷ [])
left_to_none g p told = all_of_it g p told

pub left_to_rule : (g : KoreSignature) (r : RewriteRule) (p : StatePart) (parts : List StatePart) → AreWhere g (λ c. Fires g r.body c) p parts → AreWhere g (RemainsTo g (Some r) []) p parts
left_to_rule g r p parts = said_otherwise g (λ c. Fires g r.body c) (RemainsTo g (Some r) []) p parts (λ w c sorts met. ((λ f. (f, tt)), (λ f. f.0)))

pub less_is_left : (g : KoreSignature) (o : Option RewriteRule) (turns : List RewriteRule) (q : RewriteRule) (p : StatePart) (parts : List StatePart) → TakesFrom q o → AreDividedSoFar g (RemainsTo g o turns) (λ c. ¬ Fires g q.body c) p parts [] → AreWhere g (RemainsTo g o (turns ++ q ∷ [])) p parts
less_is_left g (Some r) turns q p parts less d = said_otherwise g (λ c. RemainsTo g (Some r) turns c × (¬ Fires g q.body c)) (RemainsTo g (Some r) (turns ++ q ∷ [])) p parts
    (λ w c sorts met. (
      (λ h. (h.0.0, all_both (λ k. k.priority < r.priority → ¬ Fires g k.body c) turns (q ∷ []) h.0.1 ((λ e. h.1), tt))),
      (λ h. ((h.0, all_first (λ k. k.priority < r.priority → ¬ Fires g k.body c) turns (q ∷ []) h.1), (all_second (λ k. k.priority < r.priority → ¬ Fires g k.body c) turns (q ∷ []) h.1).0 less)),
    )) (arrives g (RemainsTo g (Some r) turns) (λ c. ¬ Fires g q.body c) p parts d)
less_is_left g None turns q p parts less d = said_otherwise g (λ c. RemainsTo g None turns c × (¬ Fires g q.body c)) (RemainsTo g None (turns ++ q ∷ [])) p parts
    (λ w c sorts met. (
      (λ h. all_both (λ k. ¬ Fires g k.body c) turns (q ∷ []) h.0 (h.1, tt)),
      (λ h. (all_first (λ k. ¬ Fires g k.body c) turns (q ∷ []) h, (all_second (λ k. ¬ Fires g k.body c) turns (q ∷ []) h).0)),
    )) (arrives g (RemainsTo g None turns) (λ c. ¬ Fires g q.body c) p parts d)

pub as_much_is_left : (g : KoreSignature) (o : Option RewriteRule) (turns : List RewriteRule) (q : RewriteRule) (p : StatePart) (parts : List StatePart) → (¬ TakesFrom q o) → AreWhere g (RemainsTo g o turns) p parts → AreWhere g (RemainsTo g o (turns ++ q ∷ [])) p parts
as_much_is_left g (Some r) turns q p parts not = said_otherwise g (RemainsTo g (Some r) turns) (RemainsTo g (Some r) (turns ++ q ∷ [])) p parts
    (λ w c sorts met. (
      (λ h. (h.0, all_both (λ k. k.priority < r.priority → ¬ Fires g k.body c) turns (q ∷ []) h.1 ((λ e. absurd (not e)), tt))),
      (λ h. (h.0, all_first (λ k. k.priority < r.priority → ¬ Fires g k.body c) turns (q ∷ []) h.1)),
    ))
as_much_is_left g None turns q p parts not = absurd (not tt)

-- ---- who has a turn

-- a rule with its turn fires first among any rules of the theory
fires_first : (t : Theory) (before : List RewriteRule) (r : RewriteRule) (c : Value) → AllByRecursion (Contains t.rules) before → HasTurn t r c → FiresFirst t.signature before r c
fires_first t before r c members turn = (
  turn.fires,
  all_map (Contains t.rules) (λ q. q.priority < r.priority → ¬ Fires t.signature q.body c) before (λ q m. of_member (λ k. k.priority < r.priority → ¬ Fires t.signature k.body c) t.rules q turn.none_before m) members,
)

pub no_part_no_turn : (t : Theory) (p : StatePart) (before : List RewriteRule) (r : RewriteRule) → AllByRecursion (Contains t.rules) before → AreWhere t.signature (FiresFirst t.signature before r) p [] → OfEachInstance t.signature p (λ w c. ¬ HasTurn t r c)
no_part_no_turn t p before r members d w c sorts met turn = d.divided.each w c sorts met (fires_first t before r c members turn)

-- those of a smaller number that have their turn at all were found before
first_has_turn : (t : Theory) (turns before : List RewriteRule) (r : RewriteRule) (c : Value) → ((q : RewriteRule) → Contains t.rules q → HasTurn t q c → Contains turns q) → AllByRecursion (λ q. q.priority < r.priority → Contains before q) turns → FiresFirst t.signature before r c → HasTurn t r c
first_has_turn t turns before r c among earlier first = has_turn t turns r c among
    (all_map (λ q. q.priority < r.priority → Contains before q) (λ q. q.priority < r.priority → ¬ Fires t.signature q.body c) turns
    (λ q found less. of_member (λ k. k.priority < r.priority → ¬ Fires t.signature k.body c) before q first.1 (found less) less) earlier) first.0

pub first_parts_are_turns : (t : Theory) (p : StatePart) (turns before : List RewriteRule) (r : RewriteRule) (parts : List StatePart) → AreAllTurns t p turns → AllByRecursion (Contains t.rules) before → AllByRecursion (λ q. q.priority < r.priority → Contains before q) turns →
    AreWhere t.signature (FiresFirst t.signature before r) p parts → AreWhere t.signature (HasTurn t r) p parts
first_parts_are_turns t p turns before r parts all members earlier = said_otherwise t.signature (FiresFirst t.signature before r) (HasTurn t r) p parts
    (λ w c sorts met. ((λ f. first_has_turn t turns before r c (all w c sorts met) earlier f), (λ turn. fires_first t before r c members turn)))

pub remainder_fires_none : (t : Theory) (p : StatePart) (turns : List RewriteRule) (parts : List StatePart) → AreAllTurns t p turns → AllByRecursion (Contains t.rules) turns → AreWhere t.signature (NoneOfThese t.signature turns) p parts → AreWhere t.signature (NoneFires t) p parts
remainder_fires_none t p turns parts all members = said_otherwise t.signature (NoneOfThese t.signature turns) (NoneFires t) p parts
    (λ w c sorts met. (
      (λ none. none_fires t turns c (all w c sorts met) none),
      (λ none. all_map (Contains t.rules) (λ q. ¬ Fires t.signature q.body c) turns (λ q m. of_member (λ k. ¬ Fires t.signature k.body c) t.rules q none m) members),
    ))
