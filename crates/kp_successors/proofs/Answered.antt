-- From what the code's rules come to, to the successors in the theory.
use Rattle.std.proofs.Common.{◌≡◌, refl, sym, subst, ◌∙◌, ℕ, ◌<◌, ◌≤◌, ◌↔◌, List, [], ◌∷◌, Some, None, inl, inr, arith}
use Rattle.std.specs.Prelude.{◌⊎◌}
use Rattle.std.specs.List.{AllByRecursion, AllZip}
use Rattle.kp_kore.specs.Syntax.{KorePattern}
use Rattle.kp_kore.specs.Signature.{KoreSignature}
use Rattle.kp_kore.specs.Value.{Value}
use Rattle.kp_kore.specs.Sorted.{IsSorted}
use Rattle.kp_kore.specs.Rules as model
use Rattle.kp_kore.specs.Theory.{Theory}
use Rattle.kp_kore.specs.Steps.{AnyByRecursion, Fires, NoneBefore, HasTurn, IsUnknown}
use Rattle.kp_rules.specs.Bodies.{IsCodeOf}
use Rattle.kp_rule_sets.specs.RuleSets.{RunsAs}
use Rattle.kp_rules.specs.declared.rule.Rule.{Rule}
use Rattle.kp_rules.specs.declared.rule.RuleBody.{RuleBody}
use Rattle.kp_rules.specs.declared.rule.RuleBody.TheVariants.{Rewrite, Foreign}
use Rattle.kp_rule_sets.specs.declared.rule_set.RuleSet.{RuleSet}
use Rattle.kp_run.specs.Causes.{HasWideCondition}
use Rattle.kp_run.specs.Turns.{BodyFires, BodyIsWide, FiresAt}
use Rattle.kp_run.proofs.Among.{of_some, zip_all, zip_any}
use Rattle.kp_run.proofs.Theories.{same_firing, only_rewrites_fire}
use Rattle.kp_successors.specs.Successors.{IsSuccessor, AreSuccessors, HasWidePart}
use Rattle.kp_successors.specs.Turns.{RightIsWide, IsWideAt, IsLeast, AreNexts}
use Rattle.kp_successors.proofs.Lists.{by_either}
use Rattle.kp_successors.proofs.Following.{IsExact, follows}
use Rattle.kp_successors.proofs.Wide.{wide_condition, wide_right}

-- ---- the least priority number

pub record LeastAt (t : Theory) (c : Value) (n : ℕ) : Type 0 where
  pub none_before : NoneBefore t n c
  pub some : AnyByRecursion (λ m. Fires t.signature m.body c × (m.priority ≡ n)) t.rules

firing_priority : (g : KoreSignature) (m : model.RewriteRule) (r : Rule) (c : Value) → IsCodeOf g m r → BodyFires g c r.body.value → m.priority ≡ r.priority
firing_priority g m r c is f = let e = only_rewrites_fire g c r.body.value f in is.is_priority e.0 e.1

pub least_at : (t : Theory) (rules : RuleSet) (c : Value) (n : ℕ) → RunsAs t rules → IsSorted t.signature c → IsLeast t.signature c rules.rules.items (Some n) → LeastAt t c n
least_at t rules c n runs s h =
    let g = t.signature in
    record {
      none_before = zip_all (IsCodeOf g) (λ r. BodyFires g c r.body.value → n ≤ r.priority) (λ m. m.priority < n → ¬ Fires g m.body c)
          (λ m r is no lt f.
          let b : BodyFires g c r.body.value = (same_firing g m.body r.body.value c s is.is_body).1 f in
          let same : m.priority ≡ r.priority = firing_priority g m r c is b in
          let le : n ≤ r.priority = no b in
          absurd (omega arith)) t.rules rules.rules.items runs.each h.0;
      some = zip_any (IsCodeOf g) (FiresAt g c n) (λ m. Fires g m.body c × (m.priority ≡ n))
          (λ m r is f. ((same_firing g m.body r.body.value c s is.is_body).0 f.0, firing_priority g m r c is f.0 ∙ f.1)) t.rules rules.rules.items runs.each h.1;
    }

-- a rule of this number that fires has its turn
turn_of : (t : Theory) (c : Value) (n : ℕ) (m : model.RewriteRule) → LeastAt t c n → Fires t.signature m.body c → m.priority ≡ n → HasTurn t m c
turn_of t c n m least f e = record { fires = f; none_before = subst (λ k. NoneBefore t k c) (sym e) least.none_before }

-- one that has its turn has this number
turn_number : (t : Theory) (c : Value) (n : ℕ) (m : model.RewriteRule) → LeastAt t c n → (m.priority < n → ¬ Fires t.signature m.body c) → HasTurn t m c → m.priority ≡ n
turn_number t c n m least before turn =
    let not_later : ¬ (n < m.priority) = λ lt. of_some (λ q. q.priority < m.priority → ¬ Fires t.signature q.body c) (λ q. Fires t.signature q.body c × (q.priority ≡ n)) ⊥
    (λ q no f. let e : q.priority ≡ n = f.1 in no (omega arith) f.0) t.rules turn.none_before least.some in
    let not_sooner : ¬ (m.priority < n) = λ lt. before lt turn.fires in
    omega (arith, not_later, not_sooner)

fires_with_turn : (t : Theory) (c : Value) (n : ℕ) (m : model.RewriteRule) (r : Rule) → IsSorted t.signature c → LeastAt t c n → (m.priority < n → ¬ Fires t.signature m.body c) → IsCodeOf t.signature m r → FiresAt t.signature c n r ↔ HasTurn t m c
fires_with_turn t c n m r s least before is = (
  (λ f. turn_of t c n m least ((same_firing t.signature m.body r.body.value c s is.is_body).0 f.0) (firing_priority t.signature m r c is f.0 ∙ f.1)),
  (λ turn.
      let b = (same_firing t.signature m.body r.body.value c s is.is_body).1 turn.fires in
      (b, sym (firing_priority t.signature m r c is b) ∙ turn_number t c n m least before turn)),
)

-- ---- the successors

successor_of : (t : Theory) (c : Value) (m : model.RewriteRule) (p : KorePattern) → ¬ IsUnknown t c → HasTurn t m c → IsExact t.signature m.body c p → IsSuccessor t c m p
successor_of t c m p known turn h = record {
  exact = λ next. (
    (λ k. (h.exact next).0 k.rewrites),
    (λ i. record { known = known; none_before = turn.none_before; rewrites = (h.exact next).1 i }),
  );
  written = h.written;
}

successors_of : (t : Theory) (c : Value) (n : ℕ) (ms : List model.RewriteRule) (rs : List Rule) (ps : List KorePattern) → IsSorted t.signature c → ¬ IsUnknown t c → LeastAt t c n →
    AllByRecursion (λ m. m.priority < n → ¬ Fires t.signature m.body c) ms → AllZip (IsCodeOf t.signature) ms rs → AreNexts t.signature c n rs ps → AreSuccessors t c ms ps
successors_of t c n [] [] ps s known least before z h = h
successors_of t c n [] (r ∷ rs) ps s known least before z h = absurd z
successors_of t c n (m ∷ ms) [] ps s known least before z h = absurd z
successors_of t c n (m ∷ ms) (r ∷ rs) ps s known least before z (inl h) =
    inl ((λ turn. h.0 ((fires_with_turn t c n m r s least before.0 z.0).1 turn)), successors_of t c n ms rs ps s known least before.1 z.1 h.1)
successors_of t c n (m ∷ ms) (r ∷ rs) [] s known least before z (inr h) = absurd h.1
successors_of t c n (m ∷ ms) (r ∷ rs) (p ∷ ps) s known least before z (inr h) =
    let turn = (fires_with_turn t c n m r s least before.0 z.0).0 h.0 in
    inr (turn, (successor_of t c m p known turn (follows t.signature m.body r.body.value c p z.0.is_body s h.0.0 h.1.0), successors_of t c n ms rs ps s known least before.1 z.1 h.1.1))

pub are_successors : (t : Theory) (rules : RuleSet) (c : Value) (n : ℕ) (ps : List KorePattern) → RunsAs t rules → IsSorted t.signature c → ¬ IsUnknown t c →
    IsLeast t.signature c rules.rules.items (Some n) → AreNexts t.signature c n rules.rules.items ps → AreSuccessors t c t.rules ps
are_successors t rules c n ps runs s known h nexts =
    let least = least_at t rules c n runs s h in
    successors_of t c n t.rules rules.rules.items ps s known least least.none_before runs.each nexts

-- where no rule fires
none_follow : (t : Theory) (c : Value) (ms : List model.RewriteRule) → AllByRecursion (λ m. ¬ Fires t.signature m.body c) ms → AreSuccessors t c ms []
none_follow t c [] h = refl
none_follow t c (m ∷ ms) h = inl ((λ turn. h.0 turn.fires), none_follow t c ms h.1)

pub no_successors : (t : Theory) (rules : RuleSet) (c : Value) → RunsAs t rules → IsSorted t.signature c → IsLeast t.signature c rules.rules.items None → AreSuccessors t c t.rules []
no_successors t rules c runs s h =
    let g = t.signature in
    none_follow t c t.rules (zip_all (IsCodeOf g) (λ r. ¬ BodyFires g c r.body.value) (λ m. ¬ Fires g m.body c) (λ m r is no f. no ((same_firing g m.body r.body.value c s is.is_body).1 f)) t.rules rules.rules.items runs.each h)

-- ---- numbers beyond 128 bits

pub conditions_narrow : (t : Theory) (rules : RuleSet) (c : Value) → RunsAs t rules → IsSorted t.signature c → AllByRecursion (λ r. ¬ BodyIsWide t.signature c r.body.value) rules.rules.items → ¬ AnyByRecursion (λ m. HasWideCondition t.signature c m.body) t.rules
conditions_narrow t rules c runs s h some =
    let g = t.signature in
    of_some (λ m. ¬ HasWideCondition g c m.body) (λ m. HasWideCondition g c m.body) ⊥ (λ m no w. no w) t.rules
    (zip_all (IsCodeOf g) (λ r. ¬ BodyIsWide g c r.body.value) (λ m. ¬ HasWideCondition g c m.body) (λ m r is no w. no ((wide_condition g m.body r.body.value c s is.is_body).1 w)) t.rules rules.rules.items runs.each h) some

wide_at : (t : Theory) (c : Value) (n : ℕ) (m : model.RewriteRule) (r : Rule) → IsSorted t.signature c → IsCodeOf t.signature m r → RightIsWide t.signature c r.body.value → BodyFires t.signature c r.body.value
wide_at t c n m r s is w = fires r.body.value w
  where
    fires : (b : RuleBody) → RightIsWide t.signature c b → BodyFires t.signature c b
    fires (Rewrite k) w = (w.0, w.1)
    fires (Foreign k) w = absurd w

pub rights_narrow : (t : Theory) (rules : RuleSet) (c : Value) (n : ℕ) → RunsAs t rules → IsSorted t.signature c → IsLeast t.signature c rules.rules.items (Some n) → AllByRecursion (λ r. ¬ IsWideAt t.signature c n r) rules.rules.items →
    ¬ AnyByRecursion (λ m. HasTurn t m c × HasWidePart t.signature c m.body) t.rules
rights_narrow t rules c n runs s h none some =
    let g = t.signature in
    let least = least_at t rules c n runs s h in
    of_some (λ m. (m.priority < n → ¬ Fires g m.body c) → ¬ (HasTurn t m c × HasWidePart g c m.body)) (λ m. (m.priority < n → ¬ Fires g m.body c) × HasTurn t m c × HasWidePart g c m.body) ⊥ (λ m no k. no k.0 (k.1, k.2)) t.rules
    (zip_all (IsCodeOf g) (λ r. ¬ IsWideAt g c n r) (λ m. (m.priority < n → ¬ Fires g m.body c) → ¬ (HasTurn t m c × HasWidePart g c m.body))
    (λ m r is no before k. no ((((fires_with_turn t c n m r s least before is).1 k.0).1), (wide_right g m.body r.body.value c s is.is_body).1 k.1)) t.rules rules.rules.items runs.each none)
    (with_before t.rules least.none_before some)
  where
    with_before : (ms : List model.RewriteRule) → AllByRecursion (λ m. m.priority < n → ¬ Fires t.signature m.body c) ms → AnyByRecursion (λ m. HasTurn t m c × HasWidePart t.signature c m.body) ms →
        AnyByRecursion (λ m. (m.priority < n → ¬ Fires t.signature m.body c) × HasTurn t m c × HasWidePart t.signature c m.body) ms
    with_before [] b a = a
    with_before (m ∷ ms) b (inl a) = inl (b.0, a.0, a.1)
    with_before (m ∷ ms) b (inr a) = inr (with_before ms b.1 a)

pub no_turns : (t : Theory) (rules : RuleSet) (c : Value) → RunsAs t rules → IsSorted t.signature c → IsLeast t.signature c rules.rules.items None → ¬ AnyByRecursion (λ m. HasTurn t m c × HasWidePart t.signature c m.body) t.rules
no_turns t rules c runs s h some =
    let g = t.signature in
    of_some (λ m. ¬ Fires g m.body c) (λ m. HasTurn t m c × HasWidePart g c m.body) ⊥ (λ m no k. no k.0.fires) t.rules
    (zip_all (IsCodeOf g) (λ r. ¬ BodyFires g c r.body.value) (λ m. ¬ Fires g m.body c) (λ m r is no f. no ((same_firing g m.body r.body.value c s is.is_body).1 f)) t.rules rules.rules.items runs.each h) some

pub condition_wide : (t : Theory) (rules : RuleSet) (c : Value) → RunsAs t rules → IsSorted t.signature c → AnyByRecursion (λ r. BodyIsWide t.signature c r.body.value) rules.rules.items → AnyByRecursion (λ m. HasWideCondition t.signature c m.body) t.rules
condition_wide t rules c runs s h =
    let g = t.signature in
    zip_any (IsCodeOf g) (λ r. BodyIsWide g c r.body.value) (λ m. HasWideCondition g c m.body) (λ m r is w. (wide_condition g m.body r.body.value c s is.is_body).0 w) t.rules rules.rules.items runs.each h

pub right_wide : (t : Theory) (rules : RuleSet) (c : Value) (n : ℕ) → RunsAs t rules → IsSorted t.signature c → IsLeast t.signature c rules.rules.items (Some n) → AnyByRecursion (IsWideAt t.signature c n) rules.rules.items →
    AnyByRecursion (λ m. HasTurn t m c × HasWidePart t.signature c m.body) t.rules
right_wide t rules c n runs s h some =
    let g = t.signature in
    let least = least_at t rules c n runs s h in
    zip_any (IsCodeOf g) (IsWideAt g c n) (λ m. HasTurn t m c × HasWidePart g c m.body)
    (λ m r is w.
    let b : BodyFires g c r.body.value = wide_at t c n m r s is w.1 in
    (turn_of t c n m least ((same_firing g m.body r.body.value c s is.is_body).0 b) (firing_priority g m r c is b ∙ w.0), (wide_right g m.body r.body.value c s is.is_body).0 w.1)) t.rules rules.rules.items runs.each some

pub split_any : {X : Type 0} (P Q : X → Type 0) (xs : List X) → AnyByRecursion (λ x. P x ⊎ Q x) xs → AnyByRecursion P xs ⊎ AnyByRecursion Q xs
split_any P Q [] a = absurd a
split_any P Q (x ∷ xs) (inl (inl p)) = inl (inl p)
split_any P Q (x ∷ xs) (inl (inr q)) = inr (inl q)
split_any P Q (x ∷ xs) (inr a) = by_either (split_any P Q xs a) (λ p. inl (inr p)) (λ q. inr (inr q))
