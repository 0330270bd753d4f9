-- Why a run isn't answered, in the words of the theory.
-- Source: this project; firing, turns and steps are those of the theory.
use Rattle.std.specs.Prelude.{◌≡◌, ◌<◌, ◌⊎◌, ℕ, zero, suc, true, List, [], ◌∷◌, Some}
use Rattle.std.specs.List.{list_any}
use Rattle.kp_kore.specs.Syntax.{KoreSort}
use Rattle.kp_kore.specs.Parts.{free_variables, term_depth}
use Rattle.kp_kore.specs.Signature.{KoreSignature, IsBelow}
use Rattle.kp_kore.specs.Sorting.{sort_of_term}
use Rattle.kp_kore.specs.Value.{Value}
use Rattle.kp_kore.specs.Instance.{Valuation, instance, GivesSorts}
use Rattle.kp_kore.specs.Rules.{Rewrite, RuleBody, rewrite, foreign_rule, RewriteRule}
use Rattle.kp_kore.specs.Limits.{most_depth}
use Rattle.kp_kore.specs.Numbers.{computes_wide}
use Rattle.kp_kore.specs.Theory.{Theory}
use Rattle.kp_kore.specs.Steps.{AnyByRecursion, FiresUnder, HasTurn, IsUnknown, Steps, StepsBy}
use Rattle.kp_rules.specs.Bodies.{IsPlain}
use Rattle.kp_compile.specs.Spelled.{spelling}

-- P of two places of the list
abbrev pub TwoAmong : {X : Type 0} → (X → Type 0) → List X → Type 0
TwoAmong P [] = ⊥
TwoAmong P (x ∷ xs) = (P x × AnyByRecursion P xs) ⊎ TwoAmong P xs

-- a configuration, and the sort that it is written at
pub record Written : Type 0 where
  pub value : Value
  pub sort : KoreSort

-- ---- the sort of the next state

-- at the state's sort, where the right term's is it or lies below it, else at the right term's
pub record IsWrittenAt (g : KoreSignature) (right state written : KoreSort) : Type 0 where
  pub above : IsBelow g.subsorts right state → written ≡ state
  pub apart : ¬ IsBelow g.subsorts right state → written ≡ right

pub record IsWrittenAs (g : KoreSignature) (m : Rewrite) (state written : KoreSort) : Type 0 where
  pub right : KoreSort
  pub is_right : sort_of_term g m.right ≡ Some right
  pub place : IsWrittenAt g right state written

abbrev pub IsWrittenBy : KoreSignature → RuleBody → KoreSort → KoreSort → Type 0
IsWrittenBy g (rewrite m) state written = IsWrittenAs g m state written
IsWrittenBy g (foreign_rule l) state written = ⊥

-- ---- one rule

-- the configuration is the left term's instance, and under that valuation the condition computes a number beyond 128 bits
pub record WideCondition (g : KoreSignature) (c : Value) (m : Rewrite) : Type 0 where
  pub valuation : Valuation
  pub sorts : GivesSorts g valuation (free_variables m.left)
  pub matches : instance g valuation m.left ≡ c
  pub wide : list_any (computes_wide g valuation) m.condition ≡ true

abbrev pub HasWideCondition : KoreSignature → Value → RuleBody → Type 0
HasWideCondition g c (rewrite m) = WideCondition g c m
HasWideCondition g c (foreign_rule l) = ⊥

-- it fires, and under that valuation the right side computes a number beyond 128 bits
pub record WideRight (g : KoreSignature) (c : Value) (m : Rewrite) : Type 0 where
  pub valuation : Valuation
  pub fires : FiresUnder g m valuation c
  pub wide : computes_wide g valuation m.right ≡ true

abbrev pub HasWideRight : KoreSignature → Value → RuleBody → Type 0
HasWideRight g c (rewrite m) = WideRight g c m
HasWideRight g c (foreign_rule l) = ⊥

-- a new variable, or an ensured condition other than \top
abbrev pub Chooses : RuleBody → Type 0
Chooses (rewrite m) = ¬ IsPlain m
Chooses (foreign_rule l) = ⊥

-- it steps to a configuration whose written term is too deep
pub record StepsTooDeep (t : Theory) (s : Written) (r : RewriteRule) : Type 0 where
  pub next : Value
  pub steps : StepsBy t r s.value next
  pub sort : KoreSort
  pub written : IsWrittenBy t.signature r.body s.sort sort
  pub deep : most_depth < term_depth (spelling t.signature sort next)

-- ---- one state

-- why no step is told of a state that no foreign rule might rewrite
pub data IsNotStepped (t : Theory) (s : Written) : Type 0 where
  -- some rule's condition, whether or not the rule would have its turn
  wide_condition : AnyByRecursion (λ r. HasWideCondition t.signature s.value r.body) t.rules → IsNotStepped t s
  -- two rules have their turn
  several : TwoAmong (λ r. HasTurn t r s.value) t.rules → IsNotStepped t s
  -- of the rule that has its turn
  chooses : AnyByRecursion (λ r. HasTurn t r s.value × Chooses r.body) t.rules → IsNotStepped t s
  wide_right : AnyByRecursion (λ r. HasTurn t r s.value × HasWideRight t.signature s.value r.body) t.rules → IsNotStepped t s
  deep : AnyByRecursion (StepsTooDeep t s) t.rules → IsNotStepped t s

-- ---- the states of a run

-- the next state: its configuration is the only one that follows, and it is written as the rule that has its turn says
pub record IsNextState (t : Theory) (s next : Written) : Type 0 where
  pub only : (other : Value) → Steps t s.value other → other ≡ next.value
  pub steps : Steps t s.value next.value
  pub written : AnyByRecursion (λ r. HasTurn t r s.value × IsWrittenBy t.signature r.body s.sort next.sort) t.rules

-- so many states on
abbrev pub IsStateIn : Theory → ℕ → Written → Written → Type 0
IsStateIn t zero s later = later ≡ s
IsStateIn t (suc n) s later = (next : Written) × IsNextState t s next × IsStateIn t n next later

-- why a run from a state for at most so many steps isn't told: a state that it reaches below the bound, and that no
-- foreign rule might rewrite, isn't stepped
pub record StopsUntold (t : Theory) (s : Written) (bound : ℕ) : Type 0 where
  pub depth : ℕ
  pub below : depth < bound
  pub state : Written
  pub reached : IsStateIn t depth s state
  pub known : ¬ IsUnknown t state.value
  pub cause : IsNotStepped t state
