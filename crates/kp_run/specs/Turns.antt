-- What the rules of a rule set that fire on a value come to.
use Rattle.std.specs.Prelude.{◌≡◌, ◌↔◌, ◌⊎◌, ◌<◌, ◌≤◌, ℕ, true, false, List, [], ◌∷◌, ◌++◌, Option, MatchOption, slice_get}
use Rattle.std.specs.Borrow.{Bor}
use Rattle.std.specs.List.{AllByRecursion}
use Rattle.kp_kore.specs.Syntax.{KoreSort}
use Rattle.kp_kore.specs.Parts.{term_depth}
use Rattle.kp_kore.specs.Signature.{KoreSignature}
use Rattle.kp_kore.specs.View.{sort_view}
use Rattle.kp_kore.specs.Value.{Value, HasSort}
use Rattle.kp_kore.specs.Instance.{Valuation}
use Rattle.kp_kore.specs.Limits.{most_depth}
use Rattle.kp_ground.specs.Solves.{Solves}
use Rattle.kp_ground.specs.Terms.{term_value, stays_narrow}
use Rattle.kp_ground.specs.TermView.{term_view}
use Rattle.kp_ground.specs.View.{value_view}
use Rattle.kp_rules.specs.Heads.{FiresAs, IsWide}
use Rattle.kp_rules.specs.Skeletons.{IsAdmitted}
use Rattle.kp_rules.specs.declared.rule.Rule.{Rule}
use Rattle.kp_rules.specs.declared.rule.RuleBody.{RuleBody}
use Rattle.kp_rules.specs.declared.rule.RuleBody.TheVariants.{Rewrite, Foreign}
use Rattle.kp_rule_sets.specs.Turns.{with_first}
use Rattle.kp_compile.specs.Spelled.{spelling}
use Rattle.kp_compile.specs.declared.state.GroundState.{GroundState}
use Rattle.kp_run.specs.Causes.{TwoAmong, IsWrittenAt}
use Rattle.kp_run.specs.Runs.{OneBetween}
use Rattle.kp_run.specs.declared.firing.GroundFiring.{GroundFiring}
use Rattle.kp_run.specs.declared.step.Turn.{Turn}
use Rattle.kp_run.specs.declared.step.Turn.TheVariants.{Nobody, One, Several}

-- the rule fires under some valuation
abbrev pub BodyFires : KoreSignature → Value → RuleBody → Type 0
BodyFires g u (Rewrite r) = (v : Valuation) × FiresAs g r u v
BodyFires g u (Foreign k) = ⊥

-- the rule is foreign, and the value may stand for its skeleton
abbrev pub MightRewrite : KoreSignature → Value → RuleBody → Type 0
MightRewrite g u (Rewrite r) = ⊥
MightRewrite g u (Foreign k) = IsAdmitted g k u

-- no rule of the list might
abbrev pub NoneMight : KoreSignature → Value → List Rule → Type 0
NoneMight g u rules = AllByRecursion (λ r. ¬ MightRewrite g u r.body.value) rules

-- of the foreign rules that might, this is the first of least priority number
abbrev pub IsFirstForeign : KoreSignature → Value → Rule → List Rule → Type 0
IsFirstForeign g u first rules = OneBetween
    (λ r. (r ≡ first) × MightRewrite g u r.body.value)
    (λ r. MightRewrite g u r.body.value → first.priority < r.priority)
    (λ r. MightRewrite g u r.body.value → first.priority ≤ r.priority) rules

-- the foreign rule that is told of these rules, where one might
abbrev pub TellsForeign : KoreSignature → Value → List Rule → Option (Bor Rule) → Type 0
TellsForeign g u rules first = MatchOption first (NoneMight g u rules) (λ f. IsFirstForeign g u f.now rules)

-- the rule doesn't fire, or its priority number is greater
abbrev pub GoesAfter : KoreSignature → Value → ℕ → Rule → Type 0
GoesAfter g u n r = BodyFires g u r.body.value → n < r.priority

-- the rule doesn't fire, or its priority number is no smaller
abbrev pub GoesNotBefore : KoreSignature → Value → ℕ → Rule → Type 0
GoesNotBefore g u n r = BodyFires g u r.body.value → n ≤ r.priority

-- the rule fires, under exactly the valuations that the bindings allow, and there are some
pub record IsFiring (g : KoreSignature) (u : Value) (f : GroundFiring) (r : Rule) : Type 0 where
  pub body : r.body.value ≡ Rewrite f.rewrite.now
  pub priority : r.priority ≡ f.priority
  pub solved : (v : Valuation) → Solves v f.bindings.items ↔ FiresAs g f.rewrite.now u v
  pub solvable : (v : Valuation) × Solves v f.bindings.items

-- the rule's firing, where it fires
abbrev pub TellsFiring : KoreSignature → Value → Option GroundFiring → Rule → Type 0
TellsFiring g u firing r = MatchOption firing (¬ BodyFires g u r.body.value) (λ f. IsFiring g u f r)

-- P of one member of the list, Q of each other
abbrev pub OneAmong : {X : Type 0} → (X → Type 0) → (X → Type 0) → List X → Type 0
OneAmong P Q [] = ⊥
OneAmong P Q (x ∷ xs) = (P x × AllByRecursion Q xs) ⊎ (Q x × OneAmong P Q xs)

-- the rule fires, and this is its priority number
abbrev pub FiresAt : KoreSignature → Value → ℕ → Rule → Type 0
FiresAt g u n r = BodyFires g u r.body.value × (r.priority ≡ n)

-- the rules come to this turn: none fires; one fires and all others go after it; or two fire and none has a smaller
-- number
abbrev pub IsTurn : KoreSignature → Value → List Rule → Turn → Type 0
IsTurn g u rules Nobody = AllByRecursion (λ r. ¬ BodyFires g u r.body.value) rules
IsTurn g u rules (One f) = OneAmong (IsFiring g u f) (GoesAfter g u f.priority) rules
IsTurn g u rules (Several n) = AllByRecursion (GoesNotBefore g u n) rules × TwoAmong (FiresAt g u n) rules

-- where P holds of the rules before, Q holds of these and the rule at the place, if there is one
abbrev pub TakesRuleAt : List Rule → ℕ → (List Rule → Type 0) → (List Rule → Type 0) → Type 0
TakesRuleAt rules place P Q = (before : List Rule) → P before → Q (before ++ with_first (slice_get rules place) [])

-- the state after a firing: its value is the right term's under the bindings, and it has the sort that it is written
-- at where it has the right term's
pub record IsAfterFiring (g : KoreSignature) (f : GroundFiring) (next : GroundState) : Type 0 where
  pub chooses : f.rewrite.now.chooses ≡ false
  pub value : (v : Valuation) → Solves v f.bindings.items → value_view next.value ≡ term_value v (term_view f.rewrite.now.right)
  pub sort : HasSort g (sort_view f.rewrite.now.right_sort) (value_view next.value) → HasSort g (sort_view next.sort) (value_view next.value)

-- ---- what isn't answered

-- the rule's left side meets the value, and its condition computes a number beyond 128 bits
abbrev pub BodyIsWide : KoreSignature → Value → RuleBody → Type 0
BodyIsWide g u (Rewrite r) = IsWide g r u
BodyIsWide g u (Foreign k) = ⊥

-- the state after the firing has a written term deeper than a state may be
pub record IsDeep (g : KoreSignature) (f : GroundFiring) (state : KoreSort) : Type 0 where
  pub next : GroundState
  pub after : IsAfterFiring g f next
  pub written : IsWrittenAt g (sort_view f.rewrite.now.right_sort) state (sort_view next.sort)
  pub deep : most_depth < term_depth (spelling g (sort_view next.sort) (value_view next.value))

-- why no state follows a firing: it chooses, its right side computes a number beyond 128 bits, or it is deep
pub data NotFollowed (g : KoreSignature) (f : GroundFiring) (state : KoreSort) : Type 0 where
  chooses : f.rewrite.now.chooses ≡ true → NotFollowed g f state
  wide : ((v : Valuation) → Solves v f.bindings.items → stays_narrow v (term_view f.rewrite.now.right) ≡ false) → NotFollowed g f state
  deep : IsDeep g f state → NotFollowed g f state

-- and of a state that does follow: no number in the right side is beyond 128 bits, and it isn't too deep
pub record IsFollowed (g : KoreSignature) (f : GroundFiring) (next : GroundState) : Type 0 where
  pub narrow : (v : Valuation) → Solves v f.bindings.items → stays_narrow v (term_view f.rewrite.now.right) ≡ true
  pub within : term_depth (spelling g (sort_view next.sort) (value_view next.value)) ≤ most_depth
