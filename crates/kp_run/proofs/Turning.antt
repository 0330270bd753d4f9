-- One more rule that fires, or doesn't.
use Rattle.std.proofs.Common.{◌≡◌, refl, sym, subst, ℕ, zero, suc, ◌<◌, ◌≤◌, List, [], ◌∷◌, ◌++◌, ◌∙◌, Bool, true, false, ◌↔◌, Option, Some, None, Bor, inl, inr, arith}
use Rattle.std.specs.Prelude.{◌⊎◌, IsTrue}
use Rattle.std.specs.List.{AllByRecursion}
use Rattle.kp_kore.specs.Signature.{KoreSignature}
use Rattle.kp_kore.specs.Value.{Value}
use Rattle.kp_rules.specs.declared.rule.Rule.{Rule}
use Rattle.kp_rule_sets.specs.Turns.{with_first}
use Rattle.std.proofs.lemmas.List.{append-nil}
use Rattle.kp_run.specs.declared.firing.GroundFiring.{GroundFiring}
use Rattle.kp_run.specs.declared.step.Turn.{Turn}
use Rattle.kp_run.specs.declared.step.Turn.TheVariants.{Nobody, One, Several}
use Rattle.kp_run.specs.Causes.{TwoAmong}
use Rattle.kp_run.specs.Turns.{BodyFires, MightRewrite, NoneMight, IsFirstForeign, TellsForeign, GoesAfter, FiresAt, IsFiring, OneAmong, IsTurn}
use Rattle.kp_run.proofs.Among.{all_along, all_and_last, one_all, one_any, one_and_last, last_is_the_one, two_and_last, two_and_more, between_all, between_and_last, last_between}

-- no rule so far has a smaller number
abbrev pub NoneSmaller : KoreSignature → Value → ℕ → List Rule → Type 0
NoneSmaller g u n rules = AllByRecursion (λ r. BodyFires g u r.body.value → n ≤ r.priority) rules

abbrev pub IsOne : KoreSignature → Value → GroundFiring → List Rule → Type 0
IsOne g u f rules = OneAmong (IsFiring g u f) (GoesAfter g u f.priority) rules

pub first_stays : (g : KoreSignature) (u : Value) (f n : GroundFiring) (rules : List Rule) (r : Rule) → IsOne g u f rules → IsFiring g u n r → f.priority < n.priority → IsOne g u f (rules ++ r ∷ [])
first_stays g u f n rules r one h lt = one_and_last (IsFiring g u f) (GoesAfter g u f.priority) rules r one (λ _. subst (λ m. f.priority < m) (sym h.priority) lt)

pub second_leads : (g : KoreSignature) (u : Value) (f n : GroundFiring) (rules : List Rule) (r : Rule) → IsOne g u f rules → IsFiring g u n r → n.priority < f.priority → IsOne g u n (rules ++ r ∷ [])
second_leads g u f n rules r one h lt =
    last_is_the_one (IsFiring g u n) (GoesAfter g u n.priority) rules r
    (one_all (IsFiring g u f) (GoesAfter g u f.priority) (GoesAfter g u n.priority) (λ q k _. subst (λ m. n.priority < m) (sym k.priority) lt)
    (λ q k b. let after : f.priority < q.priority = k b in omega arith) rules one)
    h

pub are_several : (g : KoreSignature) (u : Value) (f n : GroundFiring) (rules : List Rule) (r : Rule) → IsOne g u f rules → IsFiring g u n r → f.priority ≤ n.priority → NoneSmaller g u f.priority (rules ++ r ∷ [])
are_several g u f n rules r one h le =
    all_and_last (λ q. BodyFires g u q.body.value → f.priority ≤ q.priority) rules r
    (one_all (IsFiring g u f) (GoesAfter g u f.priority) (λ q. BodyFires g u q.body.value → f.priority ≤ q.priority)
    (λ q k _. let same : q.priority ≡ f.priority = k.priority in omega arith)
    (λ q k b. let after : f.priority < q.priority = k b in omega arith) rules one)
    (λ _. subst (λ m. f.priority ≤ m) (sym h.priority) le)

pub leads_several : (g : KoreSignature) (u : Value) (n : ℕ) (f : GroundFiring) (rules : List Rule) (r : Rule) → NoneSmaller g u n rules → IsFiring g u f r → f.priority < n → IsOne g u f (rules ++ r ∷ [])
leads_several g u n f rules r none h lt =
    last_is_the_one (IsFiring g u f) (GoesAfter g u f.priority) rules r
    (all_along (λ q. BodyFires g u q.body.value → n ≤ q.priority) (GoesAfter g u f.priority) (λ q k b. let after : n ≤ q.priority = k b in omega arith) rules none)
    h

pub stay_several : (g : KoreSignature) (u : Value) (n : ℕ) (f : GroundFiring) (rules : List Rule) (r : Rule) → NoneSmaller g u n rules → IsFiring g u f r → n ≤ f.priority → NoneSmaller g u n (rules ++ r ∷ [])
stay_several g u n f rules r none h le =
    all_and_last (λ q. BodyFires g u q.body.value → n ≤ q.priority) rules r none (λ _. subst (λ m. n ≤ m) (sym h.priority) le)

pub first_fires : (g : KoreSignature) (u : Value) (f : GroundFiring) (rules : List Rule) (r : Rule) → AllByRecursion (λ q. ¬ BodyFires g u q.body.value) rules → IsFiring g u f r → IsOne g u f (rules ++ r ∷ [])
first_fires g u f rules r none h =
    last_is_the_one (IsFiring g u f) (GoesAfter g u f.priority) rules r
    (all_along (λ q. ¬ BodyFires g u q.body.value) (GoesAfter g u f.priority) (λ q k b. absurd (k b)) rules none)
    h

-- a firing's rule fires, at its number
fires_at : (g : KoreSignature) (u : Value) (f : GroundFiring) (r : Rule) (n : ℕ) → IsFiring g u f r → f.priority ≡ n → FiresAt g u n r
fires_at g u f r n h e = (subst (BodyFires g u) (sym h.body) (h.solvable.0, (h.solved h.solvable.0).0 h.solvable.1), h.priority ∙ e)

pub are_two : (g : KoreSignature) (u : Value) (f n : GroundFiring) (rules : List Rule) (r : Rule) → IsOne g u f rules → IsFiring g u n r → n.priority ≡ f.priority → TwoAmong (FiresAt g u f.priority) (rules ++ r ∷ [])
are_two g u f n rules r one h e =
    two_and_last (FiresAt g u f.priority) rules r
    (one_any (IsFiring g u f) (GoesAfter g u f.priority) (FiresAt g u f.priority) (λ q k. fires_at g u f q f.priority k refl) rules one)
    (fires_at g u n r f.priority h e)

pub still_two : (g : KoreSignature) (u : Value) (n : ℕ) (rules : List Rule) (r : Rule) → TwoAmong (FiresAt g u n) rules → TwoAmong (FiresAt g u n) (rules ++ r ∷ [])
still_two g u n rules r two = two_and_more (FiresAt g u n) rules (r ∷ []) two

-- a rule that doesn't fire leaves the turn as it was
pub turn_stays : (g : KoreSignature) (u : Value) (turn : Turn) (rules : List Rule) (r : Rule) → IsTurn g u rules turn → ¬ BodyFires g u r.body.value → IsTurn g u (rules ++ r ∷ []) turn
turn_stays g u Nobody rules r is isnt = all_and_last (λ q. ¬ BodyFires g u q.body.value) rules r is isnt
turn_stays g u (One f) rules r is isnt = one_and_last (IsFiring g u f) (GoesAfter g u f.priority) rules r is (λ b. absurd (isnt b))
turn_stays g u (Several n) rules r is isnt = (all_and_last (λ q. BodyFires g u q.body.value → n ≤ q.priority) rules r is.0 (λ b. absurd (isnt b)), still_two g u n rules r is.1)

-- nor does one at a place, where there is one
pub turn_stays_at : (g : KoreSignature) (u : Value) (turn : Turn) (rules : List Rule) (o : Option Rule) → IsTurn g u rules turn → AllByRecursion (λ r. ¬ BodyFires g u r.body.value) (with_first o []) → IsTurn g u (rules ++ with_first o []) turn
turn_stays_at g u turn rules (Some r) is rests = turn_stays g u turn rules r is rests.0
turn_stays_at g u turn rules None is rests = subst (λ rs. IsTurn g u rs turn) (sym (append-nil rules)) is

-- ---- one item further in the loops

-- ---- foreign rules

-- one more rule that might rewrite the value
pub told_next : (g : KoreSignature) (u : Value) (first r : Rule) (rules : List Rule) → IsFirstForeign g u first rules → MightRewrite g u r.body.value → r.priority < first.priority → IsFirstForeign g u r (rules ++ r ∷ [])
told_next g u first r rules is might lt =
    last_between (λ q. (q ≡ r) × MightRewrite g u q.body.value) (λ q. MightRewrite g u q.body.value → r.priority < q.priority) (λ q. MightRewrite g u q.body.value → r.priority ≤ q.priority) rules r
    (between_all (λ q. (q ≡ first) × MightRewrite g u q.body.value) (λ q. MightRewrite g u q.body.value → first.priority < q.priority) (λ q. MightRewrite g u q.body.value → first.priority ≤ q.priority)
    (λ q. MightRewrite g u q.body.value → r.priority < q.priority)
    (λ q h _. subst (λ x. r.priority < x.priority) (sym h.0) lt)
    (λ q h m. let later : first.priority < q.priority = h m in omega arith)
    (λ q h m. let later : first.priority ≤ q.priority = h m in omega arith) rules is)
    (refl, might)

pub told_stays : (g : KoreSignature) (u : Value) (first r : Rule) (rules : List Rule) → IsFirstForeign g u first rules → first.priority ≤ r.priority → IsFirstForeign g u first (rules ++ r ∷ [])
told_stays g u first r rules is le =
    between_and_last (λ q. (q ≡ first) × MightRewrite g u q.body.value) (λ q. MightRewrite g u q.body.value → first.priority < q.priority) (λ q. MightRewrite g u q.body.value → first.priority ≤ q.priority) rules r is (λ _. le)

pub told_alone : (g : KoreSignature) (u : Value) (r : Rule) (rules : List Rule) → NoneMight g u rules → MightRewrite g u r.body.value → IsFirstForeign g u r (rules ++ r ∷ [])
told_alone g u r rules none might =
    last_between (λ q. (q ≡ r) × MightRewrite g u q.body.value) (λ q. MightRewrite g u q.body.value → r.priority < q.priority) (λ q. MightRewrite g u q.body.value → r.priority ≤ q.priority) rules r
    (all_along (λ q. ¬ MightRewrite g u q.body.value) (λ q. MightRewrite g u q.body.value → r.priority < q.priority) (λ q isnt m. absurd (isnt m)) rules none)
    (refl, might)

-- one more that might not
pub told_past : (g : KoreSignature) (u : Value) (first : Option (Bor Rule)) (r : Rule) (rules : List Rule) → TellsForeign g u rules first → ¬ MightRewrite g u r.body.value → TellsForeign g u (rules ++ r ∷ []) first
told_past g u None r rules none isnt = all_and_last (λ q. ¬ MightRewrite g u q.body.value) rules r none isnt
told_past g u (Some f) r rules is isnt =
    between_and_last (λ q. (q ≡ f.now) × MightRewrite g u q.body.value) (λ q. MightRewrite g u q.body.value → f.now.priority < q.priority) (λ q. MightRewrite g u q.body.value → f.now.priority ≤ q.priority) rules r is (λ m. absurd (isnt m))

-- a number that isn't at most n, as the code found
pub at_most_or_beyond : (d n : ℕ) → (d ≤ n) ⊎ (n < d)
at_most_or_beyond zero n = inl (omega arith)
at_most_or_beyond (suc d) zero = inr (omega arith)
at_most_or_beyond (suc d) (suc n) = one_up (at_most_or_beyond d n)
  where
    one_up : (d ≤ n) ⊎ (n < d) → (suc d ≤ suc n) ⊎ (suc n < suc d)
    one_up (inl le) = inl (omega arith)
    one_up (inr lt) = inr (omega arith)

pub is_beyond : (d n : ℕ) (b : Bool) → b ≡ false → IsTrue b ↔ (d ≤ n) → n < d
is_beyond d n b isnt told = by_order (at_most_or_beyond d n)
  where
    by_order : (d ≤ n) ⊎ (n < d) → n < d
    by_order (inl le) = let yes : b ≡ true = told.1 le in absurd (cc)
    by_order (inr lt) = lt
