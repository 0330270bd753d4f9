-- A complete run of the main theory beside that of the theory with claims as rules.
use Rattle.std.proofs.Common.{◌≡◌, refl, ℕ, zero, suc, ◌<◌, ◌+◌, List, [], ◌∷◌, ◌++◌, length, inl, inr, true, arith}
use Rattle.std.specs.List.{AllByRecursion}
use Rattle.kp_kore.specs.Syntax.{Text}
use Rattle.kp_kore.specs.Value.{Value}
use Rattle.kp_kore.specs.Rules.{RewriteRule}
use Rattle.kp_kore.specs.Theory.{Theory}
use Rattle.kp_kore.specs.Steps.{AnyByRecursion, Fires, NoneBefore, HasTurn, IsUnknown, IsUnknownBy, StepsBy, Steps, StepsIn, NoneFires, IsFinal, IsCompleteRun}
use Rattle.kp_kore.specs.Replies.{is_listed, NoneListed}
use Rattle.kp_kore.specs.ClaimRules.{claim_priority, with_rules}
use Rattle.kp_kore.proofs.ListLemmas.{all_append, all_right, all_map, all_both, all_each, any_left, any_map, any_all}

-- ---- a step of the theory is one of the theory with claim rules, where none of these has its turn

-- a claim rule that fires where a main rule of a greater number has its turn among the main rules would have its turn
claim_turn : (t : Theory) (rs : List RewriteRule) (c : Value) (r q : RewriteRule) → NoneBefore t r.priority c → AllByRecursion (λ x. x.priority ≡ claim_priority) rs → q.priority ≡ claim_priority → q.priority < r.priority → NoneBefore (with_rules t rs) q.priority c
claim_turn t rs c r q before twenties twenty less = all_append (λ x. x.priority < q.priority → ¬ Fires t.signature x.body c) t.rules rs
    (all_map (λ x. x.priority < r.priority → ¬ Fires t.signature x.body c) (λ x. x.priority < q.priority → ¬ Fires t.signature x.body c) t.rules (λ x f l. f (omega (arith, l, less))) before)
    (all_map (λ x. x.priority ≡ claim_priority) (λ x. x.priority < q.priority → ¬ Fires t.signature x.body c) rs (λ x e l. absurd (omega (arith, e, twenty, l))) twenties)

-- a main rule with its turn has it among the claim rules too
pub none_before_too : (t : Theory) (rs : List RewriteRule) (c : Value) (r : RewriteRule) → NoneBefore t r.priority c → AllByRecursion (λ q. q.priority ≡ claim_priority) rs → AllByRecursion (λ q. ¬ HasTurn (with_rules t rs) q c) rs → NoneBefore (with_rules t rs) r.priority c
none_before_too t rs c r before twenties turns = all_append (λ q. q.priority < r.priority → ¬ Fires t.signature q.body c) t.rules rs before
    (all_map (λ q. (q.priority ≡ claim_priority) × ¬ HasTurn (with_rules t rs) q c) (λ q. q.priority < r.priority → ¬ Fires t.signature q.body c) rs
    (λ q h less fires. h.1 (record { fires = fires; none_before = claim_turn t rs c r q before twenties h.0 less }))
    (all_both (λ q. q.priority ≡ claim_priority) (λ q. ¬ HasTurn (with_rules t rs) q c) rs twenties turns))

-- unknown by a main rule
pub unknown_too : (t : Theory) (rs : List RewriteRule) (c : Value) → IsUnknown t c → IsUnknown (with_rules t rs) c
unknown_too t rs c u = any_left (λ r. IsUnknownBy t.signature r.body c) t.rules rs u

pub step_too : (t : Theory) (rs : List RewriteRule) (c next : Value) → AllByRecursion (λ q. q.priority ≡ claim_priority) rs → AllByRecursion (λ q. ¬ HasTurn (with_rules t rs) q c) rs → ¬ IsUnknown (with_rules t rs) c → Steps t c next → Steps (with_rules t rs) c next
step_too t rs c next twenties turns known s = any_left (λ r. StepsBy (with_rules t rs) r c next) t.rules rs
    (any_map (λ r. StepsBy t r c next) (λ r. StepsBy (with_rules t rs) r c next) t.rules
    (λ r h. record { known = known; none_before = none_before_too t rs c r h.none_before twenties turns; rewrites = h.rewrites }) s)

-- final in main, and no claim rule with its turn: final with the claim rules
pub final_too : (t : Theory) (rs : List RewriteRule) (c : Value) → AllByRecursion (λ q. q.priority ≡ claim_priority) rs → AllByRecursion (λ q. ¬ HasTurn (with_rules t rs) q c) rs → IsFinal t c → IsFinal (with_rules t rs) c
final_too t rs c twenties turns f = elim f [
  | inl u ↦ inl (unknown_too t rs c u)
  | inr none ↦ inr (all_append (λ r. ¬ Fires t.signature r.body c) t.rules rs none
      (all_map (λ q. (q.priority ≡ claim_priority) × ¬ HasTurn (with_rules t rs) q c) (λ r. ¬ Fires t.signature r.body c) rs
      (λ q h fires. h.1 (record {
        fires = fires;
        none_before = all_append (λ x. x.priority < q.priority → ¬ Fires t.signature x.body c) t.rules rs
            (all_map (λ x. ¬ Fires t.signature x.body c) (λ x. x.priority < q.priority → ¬ Fires t.signature x.body c) t.rules (λ x n l. n) none)
            (all_map (λ x. x.priority ≡ claim_priority) (λ x. x.priority < q.priority → ¬ Fires t.signature x.body c) rs (λ x e l. absurd (omega (arith, e, h.0, l))) twenties);
      }))
      (all_both (λ q. q.priority ≡ claim_priority) (λ q. ¬ HasTurn (with_rules t rs) q c) rs twenties turns)))
]

-- ---- a complete run of main goes on where nothing is final and no claim rule has its turn

-- what is so many steps on in a run, and what comes after it
pub record Later (t : Theory) (rs : List RewriteRule) (c : Value) (more : List Value) (d : ℕ) : Type 1 where
  pub at : Value
  pub rest : List Value
  pub steps : StepsIn (with_rules t rs) d c at
  pub run : IsCompleteRun t at rest
  pub shorter : length rest + d ≡ length more
  pub forth : (P : Value → Type 0) → AllByRecursion P (c ∷ more) → AllByRecursion P (at ∷ rest)

pub goes_on : (t : Theory) (rs : List RewriteRule) (d : ℕ) (c : Value) (more : List Value) → AllByRecursion (λ q. q.priority ≡ claim_priority) rs → IsCompleteRun t c more →
    ((n : ℕ) (e : Value) → n < d → StepsIn (with_rules t rs) n c e → ¬ IsFinal (with_rules t rs) e) →
    ((n : ℕ) (e : Value) → n < d → StepsIn (with_rules t rs) n c e → AllByRecursion (λ q. ¬ HasTurn (with_rules t rs) q e) rs) → Later t rs c more d
goes_on t rs zero c more twenties run going turns = record { at = c; rest = more; steps = refl; run = run; shorter = omega arith; forth = λ P a. a }
goes_on t rs (suc d) c [] twenties run going turns = absurd (going 0 c (omega arith) refl (final_too t rs c twenties (turns 0 c (omega arith) refl) run))
goes_on t rs (suc d) c (next ∷ more) twenties run going turns =
    let step : Steps (with_rules t rs) c next = step_too t rs c next twenties (turns 0 c (omega arith) refl) (λ u. going 0 c (omega arith) refl (inl u)) run.0 in
    let later : Later t rs next more d = goes_on t rs d next more twenties run.1 (λ n e lt s. going (suc n) e (omega (arith, lt)) (next, step, s)) (λ n e lt s. turns (suc n) e (omega (arith, lt)) (next, step, s)) in
    record { at = later.at; rest = later.rest; steps = (next, step, later.steps); run = later.run; shorter = omega (arith, later.shorter); forth = λ P a. later.forth P a.1 }

-- ---- turns among the claim rules

pub listed_turns : (t : Theory) (rs : List RewriteRule) (listed : List Text) (c : Value) → AllByRecursion (λ r. is_listed listed r ≡ true) rs → NoneListed (with_rules t rs) listed c → AllByRecursion (λ q. ¬ HasTurn (with_rules t rs) q c) rs
listed_turns t rs listed c all none = all_map (λ q. (is_listed listed q ≡ true) × (is_listed listed q ≡ true → ¬ HasTurn (with_rules t rs) q c)) (λ q. ¬ HasTurn (with_rules t rs) q c) rs (λ q h. h.1 h.0)
    (all_both (λ q. is_listed listed q ≡ true) (λ q. is_listed listed q ≡ true → ¬ HasTurn (with_rules t rs) q c) rs all (all_right (λ q. is_listed listed q ≡ true → ¬ HasTurn (with_rules t rs) q c) t.rules rs none))

-- where some main rule has its turn among the claim rules, none before a number k fires if none of main does
pub turn_before : (t : Theory) (rs : List RewriteRule) (c : Value) (k : ℕ) (xs : List RewriteRule) → AnyByRecursion (λ r. HasTurn (with_rules t rs) r c) xs → AllByRecursion (λ x. x.priority < k → ¬ Fires t.signature x.body c) xs → NoneBefore (with_rules t rs) k c
turn_before t rs c k xs turn before = any_all (λ r. HasTurn (with_rules t rs) r c) (λ x. x.priority < k → ¬ Fires t.signature x.body c) (NoneBefore (with_rules t rs) k c) xs
    (λ r h f. all_map (λ x. x.priority < r.priority → ¬ Fires t.signature x.body c) (λ x. x.priority < k → ¬ Fires t.signature x.body c) (t.rules ++ rs)
    (λ x g l. g (below r h f x l)) h.none_before) turn before
  where
    at_least : (r : RewriteRule) → HasTurn (with_rules t rs) r c → (r.priority < k → ¬ Fires t.signature r.body c) → ¬ (r.priority < k)
    at_least r h f l = f l h.fires

    below : (r : RewriteRule) → HasTurn (with_rules t rs) r c → (r.priority < k → ¬ Fires t.signature r.body c) → (x : RewriteRule) → x.priority < k → x.priority < r.priority
    below r h f x l = let no : ¬ (r.priority < k) = at_least r h f in omega (arith, l, no)

-- ---- where no rule has its turn, none fires

none_below : (t : Theory) (c : Value) → AllByRecursion (λ r. ¬ HasTurn t r c) t.rules → (n : ℕ) → AllByRecursion (λ r. r.priority < n → ¬ Fires t.signature r.body c) t.rules
none_below t c turns zero = all_map (λ r. ¬ HasTurn t r c) (λ r. r.priority < 0 → ¬ Fires t.signature r.body c) t.rules (λ r h l. absurd (omega (arith, l))) turns
none_below t c turns (suc n) = all_map (λ r. ¬ HasTurn t r c) (λ r. r.priority < suc n → ¬ Fires t.signature r.body c) t.rules
    (λ r h l fires. h (record { fires = fires; none_before = all_map (λ x. x.priority < n → ¬ Fires t.signature x.body c) (λ x. x.priority < r.priority → ¬ Fires t.signature x.body c) t.rules (λ x f k. f (omega (arith, l, k))) (none_below t c turns n) })) turns

pub none_fire : (t : Theory) (c : Value) → AllByRecursion (λ r. ¬ HasTurn t r c) t.rules → NoneFires t c
none_fire t c turns = all_map (λ r. (n : ℕ) → r.priority < n → ¬ Fires t.signature r.body c) (λ r. ¬ Fires t.signature r.body c) t.rules (λ r f. f (suc r.priority) (omega arith))
    (all_each (λ n r. r.priority < n → ¬ Fires t.signature r.body c) t.rules (λ n. none_below t c turns n))
