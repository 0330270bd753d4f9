-- Who has a turn.
use Rattle.std.proofs.Common.{◌<◌, ◌≤◌, ℕ, zero, suc, List, get_or, arith}
use Rattle.std.specs.List.{AllByRecursion, Contains}
use Rattle.std.proofs.lemmas.List.Elements.{All-from_recursion, All-contains, recursion_from_All, Contains-get_or}
use Rattle.kp_kore.specs.Value.{Value}
use Rattle.kp_kore.specs.Rules.{RewriteRule}
use Rattle.kp_kore.specs.Theory.{Theory}
use Rattle.kp_kore.specs.Steps.{Fires, HasTurn, NoneFires}

-- what holds of each member holds of one
pub of_member : {X : Type 0} (P : X → Type 0) (xs : List X) (x : X) → AllByRecursion P xs → Contains xs x → P x
of_member P xs x h c = All-contains P xs x (All-from_recursion P xs h) c

-- a rule of a smaller number that fires takes the turn of all others
pub no_later_turn : (t : Theory) (r q : RewriteRule) (c : Value) → Contains t.rules r → Fires t.signature r.body c → r.priority < q.priority → ¬ HasTurn t q c
no_later_turn t r q c member fires before turn = of_member (λ r. r.priority < q.priority → ¬ Fires t.signature r.body c) t.rules r turn.none_before member before fires

-- P of each member, one by one
pub each_member : {X : Type 0} (P : X → Type 0) (xs : List X) → ((x : X) → Contains xs x → P x) → AllByRecursion P xs
each_member P xs h = recursion_from_All P xs (λ k d less. h (get_or xs k d) (Contains-get_or xs k d less))

-- by the priority number: whether a rule fires is never asked
below : (t : Theory) (turns : List RewriteRule) (c : Value) (bound : ℕ) → ((r : RewriteRule) → Contains t.rules r → HasTurn t r c → Contains turns r) →
    ((r : RewriteRule) → Contains turns r → r.priority < bound → ¬ Fires t.signature r.body c) → (n : ℕ) → n ≤ bound → (r : RewriteRule) → Contains t.rules r → r.priority < n → ¬ Fires t.signature r.body c
below t turns c bound among none zero most r member less fires = absurd (omega arith)
below t turns c bound among none (suc n) most r member less fires =
    none r (among r member (record {
      fires = fires;
      none_before = each_member (λ q. q.priority < r.priority → ¬ Fires t.signature q.body c) t.rules (λ q m before. below t turns c bound among none n (omega arith) q m (omega arith));
    })) (omega arith) fires

-- where none fires of those that may have a turn, none fires
pub none_fires : (t : Theory) (turns : List RewriteRule) (c : Value) → ((r : RewriteRule) → Contains t.rules r → HasTurn t r c → Contains turns r) →
    AllByRecursion (λ r. ¬ Fires t.signature r.body c) turns → NoneFires t c
none_fires t turns c among none = each_member (λ r. ¬ Fires t.signature r.body c) t.rules
    (λ r m. below t turns c (suc r.priority) among (λ q k less. of_member (λ q. ¬ Fires t.signature q.body c) turns q none k) (suc r.priority) (omega arith) r m (omega arith))

-- where none fires of those of a smaller number that may have a turn, a rule that fires has its turn
pub has_turn : (t : Theory) (turns : List RewriteRule) (r : RewriteRule) (c : Value) → ((q : RewriteRule) → Contains t.rules q → HasTurn t q c → Contains turns q) →
    AllByRecursion (λ q. q.priority < r.priority → ¬ Fires t.signature q.body c) turns → Fires t.signature r.body c → HasTurn t r c
has_turn t turns r c among none fires = record {
  fires = fires;
  none_before = each_member (λ q. q.priority < r.priority → ¬ Fires t.signature q.body c) t.rules
      (λ q m before. below t turns c r.priority among (λ k l less. of_member (λ k. k.priority < r.priority → ¬ Fires t.signature k.body c) turns k none l less) r.priority (omega arith) q m before);
}
