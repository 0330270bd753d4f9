-- A tree of arcs makes its claim hold, one step further than its circularities.
use Rattle.std.proofs.Common.{◌≡◌, sym, subst, refl, ℕ, zero, suc, ◌<◌, ◌≤◌, ◌+◌, Bool, true, false, ◌||◌, List, [], ◌∷◌, ◌++◌, length, inl, inr, Option, Some, None, arith}
use Rattle.std.specs.List.{AllByRecursion, AllZip}
use Rattle.kp_kore.specs.Syntax.{Text, KorePattern}
use Rattle.kp_kore.specs.Parts.{free_variables}
use Rattle.kp_kore.specs.Value.{Value}
use Rattle.kp_kore.specs.Instance.{Valuation, GivesSorts, AgreesOff, AgreesOn, IsInstance}
use Rattle.kp_kore.specs.Rules.{RewriteRule}
use Rattle.kp_kore.specs.Theory.{Theory}
use Rattle.kp_kore.specs.Steps.{AnyByRecursion, Fires, FiresUnder, LeadsTo, Rewrites, HasTurn, StepsBy, IsCompleteRun}
use Rattle.kp_kore.specs.Claims.{ReachabilityClaim, IsReached, Misses, HoldsUpTo, Holds, HoldsAfter}
use Rattle.kp_kore.specs.Replies.{IsFreshName, is_listed, variables_beyond}
use Rattle.kp_kore.specs.AtHand.{IsOver}
use Rattle.kp_kore.specs.Arcs.{EdgeSays, HasNoFreshName, BranchChild, BranchSays}
use Rattle.kp_kore.specs.ClaimRules.{IsClaimRule, is_claim_rule_id, claim_priority, with_rules, is_progress, MayUse}
use Rattle.kp_kore.specs.ProofTrees.{Proof, cover, vacuous, edge, split, branch, Proofs, no_children, next_child, BranchProofs, no_branches, next_branch}
use Rattle.kp_kore.proofs.ListLemmas.{all_append, all_left, all_right, all_map, all_both, all_each, any_map, any_all, none_of}
use Rattle.kp_kore.proofs.ClaimRuleLemmas.{fires_left, reached_leads}
use Rattle.kp_kore.proofs.ArcLemmas.{agree_on_left, sorts_stay, missed_too, fresh_of}
use Rattle.kp_kore.proofs.ClaimRuns.{unknown_too, Later, goes_on, listed_turns, turn_before, none_fire}

-- ---- how long a run may be: shorter than n behind progress, else at most n

unfoldable Bound : Bool → ℕ → ℕ → Type 0
Bound true n m = m < n
Bound false n m = m ≤ n

bound_less : (b b' : Bool) (n m m' : ℕ) → Bound b n m → m' < m → Bound b' n m'
unfolding Bound
bound_less true true n m m' h l = omega arith
bound_less true false n m m' h l = omega arith
bound_less false true n m m' h l = omega arith
bound_less false false n m m' h l = omega arith

bound_same : (b : Bool) (n m m' : ℕ) → Bound b n m → m' ≤ m → Bound b n m'
unfolding Bound
bound_same true n m m' h l = omega arith
bound_same false n m m' h l = omega arith

-- ---- claims at hand

-- the rule is that of a claim that holds up to m
record Usable (t : Theory) (m : ℕ) (r : RewriteRule) : Type 0 where
  claim : ReachabilityClaim
  is : IsClaimRule claim r
  met : HoldsUpTo t m claim

usable_of : (t : Theory) (m : ℕ) (claims : List ReachabilityClaim) (rs : List RewriteRule) → AllZip IsClaimRule claims rs → AllByRecursion (HoldsUpTo t m) claims → AllByRecursion (Usable t m) rs
usable_of t m [] [] z h = tt
usable_of t m [] (r ∷ rs) z h = absurd z
usable_of t m (c ∷ cs) [] z h = tt
usable_of t m (c ∷ cs) (r ∷ rs) z h = (record { claim = c; is = z.0; met = h.0 }, usable_of t m cs rs z.1 h.1)

all_up_to : (t : Theory) (m : ℕ) (claims : List ReachabilityClaim) → AllByRecursion (Holds t) claims → AllByRecursion (HoldsUpTo t m) claims
all_up_to t m [] h = tt
all_up_to t m (c ∷ cs) h = (h.0 m, all_up_to t m cs h.1)

usable : (t : Theory) (dependencies circularities : List ReachabilityClaim) (b : Bool) (rs : List RewriteRule) (n m : ℕ) → AllByRecursion (Holds t) dependencies → ((k : ℕ) → k < n → AllByRecursion (HoldsUpTo t k) circularities) → MayUse dependencies circularities b rs → Bound b n m → AllByRecursion (Usable t m) rs
unfolding Bound
usable t dependencies circularities b rs n m dep own may bound = elim may [
  | inl none ↦ subst (AllByRecursion (Usable t m)) (sym none) tt
  | inr rest ↦ elim rest [
    | inl zip ↦ usable_of t m dependencies rs zip (all_up_to t m dependencies dep)
    | inr late ↦ usable_of t m (dependencies ++ circularities) rs late.1 (all_append (HoldsUpTo t m) dependencies circularities (all_up_to t m dependencies dep) (own m (subst (λ x. Bound x n m) late.0 bound)))
  ]
]

-- ---- what a state with a proof does

Meets : Theory → ReachabilityClaim → Bool → ℕ → KorePattern → Type 0
Meets t claim b n s = (v : Valuation) (c : Value) (more : List Value) → GivesSorts t.signature v (free_variables claim.left) → GivesSorts t.signature v (free_variables s) → IsInstance t.signature v s c → IsCompleteRun t c more → Bound b n (length more) → ¬ Misses t.signature claim v (c ∷ more)

in_child : (t : Theory) (claim : ReachabilityClaim) → HasNoFreshName claim → (b : Bool) (n : ℕ) (s s' : KorePattern) → AllByRecursion (λ x. IsFreshName x.name) (variables_beyond s s') → Meets t claim b n s' → (v : Valuation) (c : Value) (more : List Value) → GivesSorts t.signature v (free_variables claim.left) → IsOver t.signature s v s' c → IsCompleteRun t c more → Bound b n (length more) → ¬ Misses t.signature claim v (c ∷ more)
unfolding Meets
in_child t claim none b n s s' names below v c more left child run bound misses =
    let agrees : AgreesOn (free_variables claim.left) v child.chosen = agree_on_left (free_variables claim.left) (variables_beyond s s') v child.chosen none names child.agrees in
    below child.chosen c more (sorts_stay t.signature (free_variables claim.left) v child.chosen agrees left) child.sorts child.met run bound (missed_too t.signature claim v child.chosen (c ∷ more) agrees misses)

over_edge : (t : Theory) (claim : ReachabilityClaim) → HasNoFreshName claim → (b : Bool) (n : ℕ) (s s' : KorePattern) (rs : List RewriteRule) (listed : List Text) (d : ℕ) → AllByRecursion (λ q. q.priority ≡ claim_priority) rs → AllByRecursion (λ r. is_listed listed r ≡ true) rs → EdgeSays (with_rules t rs) listed s s' d → Meets t claim true n s' → Meets t claim b n s
unfolding Meets
over_edge t claim none b n s s' rs listed d twenties all says below v c more left sorts met run bound misses =
    let later : Later t rs c more d = goes_on t rs d c more twenties run (λ k e lt steps. says.after.not_final v k e sorts lt (c, met, steps))
    (λ k e lt steps. listed_turns t rs listed e all (says.after.none_listed v k e sorts lt (c, met, steps))) in
    let there : (w : Valuation) × AgreesOff (variables_beyond s s') v w × GivesSorts t.signature w (free_variables s') × IsInstance t.signature w s' later.at = says.after.found v later.at sorts (c, met, later.steps) in
    let agrees : AgreesOn (free_variables claim.left) v there.0 = agree_on_left (free_variables claim.left) (variables_beyond s s') v there.0 none (fresh_of s (variables_beyond s s') says.after.names) there.1 in
    let least : 1 ≤ d = says.progress in
    let same : length later.rest + d ≡ length more = later.shorter in
    below there.0 later.at later.rest (sorts_stay t.signature (free_variables claim.left) v there.0 agrees left) there.2 there.3 later.run (bound_less b true n (length more) (length later.rest) bound (omega (arith, least, same)))
    (missed_too t.signature claim v there.0 (later.at ∷ later.rest) agrees (later.forth (λ x. ¬ IsReached t.signature claim v x) misses))

-- ---- branches

-- each member that steps is one of the members of its id that step
of_its_id : (P : RewriteRule → Type 0) (rs : List RewriteRule) → AllByRecursion (λ r. P r → AnyByRecursion (λ q. (q.id ≡ r.id) × P q) rs) rs
of_its_id P [] = tt
of_its_id P (r ∷ rs) = ((λ p. inl (refl, p)), all_map (λ x. P x → AnyByRecursion (λ q. (q.id ≡ x.id) × P q) rs) (λ x. P x → AnyByRecursion (λ q. (q.id ≡ x.id) × P q) (r ∷ rs)) rs (λ x f p. inr (f p)) (of_its_id P rs))

-- the children of a branch have each successor, rule by rule
found_by_rule : (t : Theory) (s : KorePattern) (children : List BranchChild) → BranchSays t s children → (v : Valuation) (c next : Value) → GivesSorts t.signature v (free_variables s) → IsInstance t.signature v s c →
    AllByRecursion (λ r. StepsBy t r c next → AnyByRecursion (λ k. (k.rule ≡ Some r.id) × IsOver t.signature s v k.state next) children) t.rules
found_by_rule t s children says v c next sorts met = all_map (λ r. StepsBy t r c next → AnyByRecursion (λ q. (q.id ≡ r.id) × StepsBy t q c next) t.rules) (λ r. StepsBy t r c next → AnyByRecursion (λ k. (k.rule ≡ Some r.id) × IsOver t.signature s v k.state next) children) t.rules
    (λ r f step. says.found v c next sorts met (Some r.id) (f step)) (of_its_id (λ r. StepsBy t r c next) t.rules)

-- of no member of a run is it reached, where from each what follows is absurd
all_missed : (t : Theory) (claim : ReachabilityClaim) (w : Valuation) (P : Value → Type 0) (m : ℕ) (c : Value) (more : List Value) → IsCompleteRun t c more → length more ≤ m → AllByRecursion P (c ∷ more) →
    ((e : Value) (rest : List Value) → IsCompleteRun t e rest → length rest ≤ m → AllByRecursion P (e ∷ rest) → ¬ IsReached t.signature claim w e) → Misses t.signature claim w (c ∷ more)
all_missed t claim w P m c [] run within all none = (none c [] run within all, tt)
all_missed t claim w P m c (next ∷ more) run within all none = (none c (next ∷ more) run within all, all_missed t claim w P m next more run.1 (omega (arith, within)) all.1 none)

-- an instance in a child of a branch, and before it a run within the bound that the child's progress asks
unfoldable InBranch : Theory → List RewriteRule → Bool → ℕ → KorePattern → Valuation → Value → List Value → BranchChild → Type 0
InBranch t rs b n s v c run k = Bound (b || is_progress k.rule) n (length run) × IsOver t.signature s v k.state c

bound_flag : (b f : Bool) (n m : ℕ) → f ≡ false → Bound b n m → Bound (b || f) n m
bound_flag true f n m e h = h
bound_flag false f n m e h = subst (λ x. Bound x n m) (sym e) h

claim_step_is_none : (o : Option Text) (id : Text) → o ≡ Some id → is_claim_rule_id id ≡ true → is_progress o ≡ false
claim_step_is_none o id e c = rw (e, c) refl

no_step_is_none : (o : Option Text) → o ≡ None → is_progress o ≡ false
no_step_is_none o e = rw e refl

-- what the children of a branch do for an instance of its state
Below : Theory → ReachabilityClaim → List RewriteRule → Bool → ℕ → KorePattern → Valuation → List BranchChild → Type 0
Below t claim rs b n s v children = (c : Value) (run : List Value) → AnyByRecursion (InBranch t rs b n s v c run) children → IsCompleteRun t c run → ¬ Misses t.signature claim v (c ∷ run)

by_main : (t : Theory) (claim : ReachabilityClaim) (b : Bool) (n : ℕ) (s : KorePattern) (rs : List RewriteRule) (children : List BranchChild) (v : Valuation) (c : Value) (more : List Value) → GivesSorts t.signature v (free_variables s) → IsInstance t.signature v s c → IsCompleteRun t c more → Bound b n (length more) → BranchSays (with_rules t rs) s children → Below t claim rs b n s v children → Misses t.signature claim v (c ∷ more) → ¬ AnyByRecursion (λ r. HasTurn (with_rules t rs) r c) t.rules
unfolding Below InBranch
by_main t claim b n s rs children v c [] sorts met run bound says below misses turn = elim run [
  | inl u ↦ says.known v c sorts met (unknown_too t rs c u)
  | inr none ↦ any_all (λ r. HasTurn (with_rules t rs) r c) (λ r. ¬ Fires t.signature r.body c) ⊥ t.rules (λ r h f. f h.fires) turn none
]
by_main t claim b n s rs children v c (next ∷ rest) sorts met run bound says below misses turn =
    any_all (λ r. StepsBy t r c next) (λ r. StepsBy (with_rules t rs) r c next → AnyByRecursion (λ k. (k.rule ≡ Some r.id) × IsOver t.signature s v k.state next) children) ⊥ t.rules
    (λ r step found. below next rest
    (any_map (λ k. (k.rule ≡ Some r.id) × IsOver t.signature s v k.state next) (InBranch t rs b n s v next rest) children
    (λ k x. (bound_less b (b || is_progress k.rule) n (length (next ∷ rest)) (length rest) bound (omega arith), x.1))
    (found (record { known = says.known v c sorts met; none_before = turn_before t rs c r.priority t.rules turn step.none_before; rewrites = step.rewrites })))
    run.1 misses.1)
    run.0 (all_left (λ r. StepsBy (with_rules t rs) r c next → AnyByRecursion (λ k. (k.rule ≡ Some r.id) × IsOver t.signature s v k.state next) children) t.rules rs (found_by_rule (with_rules t rs) s children says v c next sorts met))

by_claim : (t : Theory) (claim : ReachabilityClaim) (b : Bool) (n : ℕ) (s : KorePattern) (rs : List RewriteRule) (children : List BranchChild) (v : Valuation) (c : Value) (more : List Value) → GivesSorts t.signature v (free_variables s) → IsInstance t.signature v s c → IsCompleteRun t c more → Bound b n (length more) → BranchSays (with_rules t rs) s children → Below t claim rs b n s v children → Misses t.signature claim v (c ∷ more) →
    (q : RewriteRule) → HasTurn (with_rules t rs) q c → Usable t (length more) q → ((next : Value) → StepsBy (with_rules t rs) q c next → AnyByRecursion (λ k. (k.rule ≡ Some q.id) × IsOver t.signature s v k.state next) children) → ⊥
unfolding Below InBranch
by_claim t claim b n s rs children v c more sorts met run bound says below misses q turn u found =
    let fires : (w : Valuation) × FiresUnder t.signature u.is.rule w c = subst (λ body. Fires t.signature body c) u.is.body turn.fires in
    let left : GivesSorts t.signature fires.0 (free_variables u.claim.left) × IsInstance t.signature fires.0 u.claim.left c = fires_left t.signature u.claim q u.is fires.0 c fires.1 in
    u.met fires.0 c more left.0 left.1 run (omega arith) (all_missed t u.claim fires.0 (λ x. ¬ IsReached t.signature claim v x) (length more) c more run (omega arith) misses
    (λ e rest after within missed reached.
    let leads : LeadsTo t.signature u.is.rule fires.0 e = reached_leads t.signature u.claim q u.is fires.0 e reached in
    let step : StepsBy (with_rules t rs) q c e = record { known = says.known v c sorts met; none_before = turn.none_before; rewrites = subst (λ body. Rewrites t.signature body c e) (sym u.is.body) (fires.0, fires.1, leads) } in
    below e rest (any_map (λ k. (k.rule ≡ Some q.id) × IsOver t.signature s v k.state e) (InBranch t rs b n s v e rest) children
    (λ k x. (bound_flag b (is_progress k.rule) n (length rest) (claim_step_is_none k.rule q.id x.0 u.is.id) (bound_same b n (length more) (length rest) bound within), x.1)) (found e step)) after missed))

over_branch : (t : Theory) (claim : ReachabilityClaim) (b : Bool) (n : ℕ) (s : KorePattern) (rs : List RewriteRule) (children : List BranchChild) (v : Valuation) (c : Value) (more : List Value) → GivesSorts t.signature v (free_variables s) → IsInstance t.signature v s c → IsCompleteRun t c more → Bound b n (length more) → AllByRecursion (Usable t (length more)) rs → BranchSays (with_rules t rs) s children → Below t claim rs b n s v children → ¬ Misses t.signature claim v (c ∷ more)
unfolding Below InBranch
over_branch t claim b n s rs children v c more sorts met run bound usables says below misses =
    let none_main : AllByRecursion (λ r. ¬ HasTurn (with_rules t rs) r c) t.rules = none_of (λ r. HasTurn (with_rules t rs) r c) t.rules (by_main t claim b n s rs children v c more sorts met run bound says below misses) in
    let children_of : AllByRecursion (λ q. (next : Value) → StepsBy (with_rules t rs) q c next → AnyByRecursion (λ k. (k.rule ≡ Some q.id) × IsOver t.signature s v k.state next) children) rs =
    all_each (λ next q. StepsBy (with_rules t rs) q c next → AnyByRecursion (λ k. (k.rule ≡ Some q.id) × IsOver t.signature s v k.state next) children) rs
    (λ next. all_right (λ q. StepsBy (with_rules t rs) q c next → AnyByRecursion (λ k. (k.rule ≡ Some q.id) × IsOver t.signature s v k.state next) children) t.rules rs (found_by_rule (with_rules t rs) s children says v c next sorts met)) in
    let none_claim : AllByRecursion (λ r. ¬ HasTurn (with_rules t rs) r c) rs = all_map (λ q. Usable t (length more) q × ((next : Value) → StepsBy (with_rules t rs) q c next → AnyByRecursion (λ k. (k.rule ≡ Some q.id) × IsOver t.signature s v k.state next) children)) (λ q. ¬ HasTurn (with_rules t rs) q c) rs
    (λ q x turn. by_claim t claim b n s rs children v c more sorts met run bound says below misses q turn x.0 x.1) (all_both (Usable t (length more)) (λ q. (next : Value) → StepsBy (with_rules t rs) q c next → AnyByRecursion (λ k. (k.rule ≡ Some q.id) × IsOver t.signature s v k.state next) children) rs usables children_of) in
    below c more
    (any_map (λ k. (k.rule ≡ None) × IsOver t.signature s v k.state c) (InBranch t rs b n s v c more) children
    (λ k x. (bound_flag b (is_progress k.rule) n (length more) (no_step_is_none k.rule x.0) bound, x.1))
    (says.found v c c sorts met None (none_fire (with_rules t rs) c (all_append (λ r. ¬ HasTurn (with_rules t rs) r c) t.rules rs none_main none_claim), refl)))
    run misses

-- ---- trees

mutual
  unfolding Meets Below InBranch

  proves : (t : Theory) (dependencies circularities : List ReachabilityClaim) (claim : ReachabilityClaim) → HasNoFreshName claim → AllByRecursion (Holds t) dependencies → (n : ℕ) → ((k : ℕ) → k < n → AllByRecursion (HoldsUpTo t k) circularities) → (b : Bool) (s : KorePattern) → Proof t dependencies circularities claim b s → Meets t claim b n s
  proves t dependencies circularities claim none dep n own b s (cover x p says) = λ v c more left sorts met run bound misses. misses.0 (says v c left sorts met)
  proves t dependencies circularities claim none dep n own b s (vacuous x p says) = λ v c more left sorts met run bound misses. says v c left sorts met
  proves t dependencies circularities claim none dep n own b s (edge x p s' rs listed d may all says below) = λ v c more left sorts met run bound misses.
      over_edge t claim none x n p s' rs listed d (all_map (Usable t (length more)) (λ q. q.priority ≡ claim_priority) rs (λ q u. u.is.priority) (usable t dependencies circularities x rs n (length more) dep own may bound)) all says
      (proves t dependencies circularities claim none dep n own true s' below) v c more left sorts met run bound misses
  proves t dependencies circularities claim none dep n own b s (split x p children says below) = λ v c more left sorts met run bound misses.
      says.divides v c sorts met (proves_all t dependencies circularities claim none dep n own x p children below says.names v c more left run bound misses)
  proves t dependencies circularities claim none dep n own b s (branch x p rs children may says below) = λ v c more left sorts met run bound misses.
      over_branch t claim x n p rs children v c more sorts met run bound (usable t dependencies circularities x rs n (length more) dep own may bound) says
      (λ c' more' found run' misses'. proves_branch t dependencies circularities claim none dep n own x p rs children below says.names v c' more' left found run' misses') misses

  proves_all : (t : Theory) (dependencies circularities : List ReachabilityClaim) (claim : ReachabilityClaim) → HasNoFreshName claim → AllByRecursion (Holds t) dependencies → (n : ℕ) → ((k : ℕ) → k < n → AllByRecursion (HoldsUpTo t k) circularities) → (b : Bool) (s : KorePattern) (children : List KorePattern) → Proofs t dependencies circularities claim b children → AllByRecursion (λ s'. AllByRecursion (λ x. IsFreshName x.name) (variables_beyond s s')) children → (v : Valuation) (c : Value) (more : List Value) → GivesSorts t.signature v (free_variables claim.left) → IsCompleteRun t c more → Bound b n (length more) → Misses t.signature claim v (c ∷ more) → AllByRecursion (λ s'. ¬ IsOver t.signature s v s' c) children
  proves_all t dependencies circularities claim none dep n own b s children (no_children x) names v c more left run bound misses = tt
  proves_all t dependencies circularities claim none dep n own b s children (next_child x s' rest proof proofs) names v c more left run bound misses = (
    (λ child. in_child t claim none x n s s' names.0 (proves t dependencies circularities claim none dep n own x s' proof) v c more left child run bound misses),
    proves_all t dependencies circularities claim none dep n own x s rest proofs names.1 v c more left run bound misses,
  )

  proves_branch : (t : Theory) (dependencies circularities : List ReachabilityClaim) (claim : ReachabilityClaim) → HasNoFreshName claim → AllByRecursion (Holds t) dependencies → (n : ℕ) → ((k : ℕ) → k < n → AllByRecursion (HoldsUpTo t k) circularities) → (b : Bool) (s : KorePattern) (rs : List RewriteRule) (children : List BranchChild) → BranchProofs t dependencies circularities claim b children → AllByRecursion (λ k. AllByRecursion (λ x. IsFreshName x.name) (variables_beyond s k.state)) children → (v : Valuation) (c : Value) (more : List Value) → GivesSorts t.signature v (free_variables claim.left) → AnyByRecursion (InBranch t rs b n s v c more) children → IsCompleteRun t c more → ¬ Misses t.signature claim v (c ∷ more)
  proves_branch t dependencies circularities claim none dep n own b s rs children (no_branches x) names v c more left found run misses = absurd found
  proves_branch t dependencies circularities claim none dep n own b s rs children (next_branch x k rest proof proofs) names v c more left found run misses = elim found [
    | inl child ↦ in_child t claim none (x || is_progress k.rule) n s k.state names.0 (proves t dependencies circularities claim none dep n own (x || is_progress k.rule) k.state proof) v c more left (record { chosen = child.1.chosen; agrees = child.1.agrees; sorts = child.1.sorts; met = child.1.met }) run child.0 misses
    | inr other ↦ proves_branch t dependencies circularities claim none dep n own x s rs rest proofs names.1 v c more left other run misses
  ]

pub proof_steps : (t : Theory) (dependencies circularities : List ReachabilityClaim) (claim : ReachabilityClaim) → HasNoFreshName claim → AllByRecursion (Holds t) dependencies → Proof t dependencies circularities claim false claim.left → HoldsAfter t circularities claim
unfolding Meets Bound
proof_steps t dependencies circularities claim none dep proof n own v c more sorts met run within misses = proves t dependencies circularities claim none dep n own false claim.left proof v c more sorts sorts met run within misses

steps_hold_up_to : (t : Theory) (claims : List ReachabilityClaim) → AllByRecursion (HoldsAfter t claims) claims → (n m : ℕ) → m < n → AllByRecursion (HoldsUpTo t m) claims
steps_hold_up_to t claims steps zero m less = absurd (omega (arith, less))
steps_hold_up_to t claims steps (suc n) m less = all_map (HoldsAfter t claims) (HoldsUpTo t m) claims (λ claim h. h m (λ k l. steps_hold_up_to t claims steps n k (omega (arith, less, l)))) steps

pub steps_hold : (t : Theory) (claims : List ReachabilityClaim) → AllByRecursion (HoldsAfter t claims) claims → AllByRecursion (Holds t) claims
steps_hold t claims steps = all_each (λ n claim. HoldsUpTo t n claim) claims (λ n. steps_hold_up_to t claims steps (suc n) n (omega arith))

pub proof_with_its_claim : (t : Theory) (dependencies : List ReachabilityClaim) (claim : ReachabilityClaim) → HasNoFreshName claim → AllByRecursion (Holds t) dependencies → Proof t dependencies (claim ∷ []) claim false claim.left → Holds t claim
proof_with_its_claim t dependencies claim none dep proof = (steps_hold t (claim ∷ []) (proof_steps t dependencies (claim ∷ []) claim none dep proof, tt)).0

pub proof_without_circularities : (t : Theory) (dependencies : List ReachabilityClaim) (claim : ReachabilityClaim) → HasNoFreshName claim → AllByRecursion (Holds t) dependencies → Proof t dependencies [] claim false claim.left → Holds t claim
proof_without_circularities t dependencies claim none dep proof n = proof_steps t dependencies [] claim none dep proof n (λ k l. tt)

-- what is reached isn't missed
reached_is_met : (t : Theory) (claim : ReachabilityClaim) (v : Valuation) (cs : List Value) → AnyByRecursion (IsReached t.signature claim v) cs → ¬ Misses t.signature claim v cs
reached_is_met t claim v cs found misses = any_all (IsReached t.signature claim v) (λ c. ¬ IsReached t.signature claim v c) ⊥ cs (λ c r n. n r) found misses

pub runs_reach : (t : Theory) (claim : ReachabilityClaim) →
    ((v : Valuation) (c : Value) (more : List Value) → GivesSorts t.signature v (free_variables claim.left) → IsInstance t.signature v claim.left c → IsCompleteRun t c more → AnyByRecursion (IsReached t.signature claim v) (c ∷ more)) → Holds t claim
runs_reach t claim reach n v c more sorts met run within = reached_is_met t claim v (c ∷ more) (reach v c more sorts met run)
