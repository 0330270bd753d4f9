-- The longer statements of the laws, by name.
-- Source: this project.
use Rattle.std.specs.Prelude.{◌≡◌, ℕ, suc, false, List, [], ◌∷◌, Some}
use Rattle.std.specs.List.{Contains, list_any}
use Rattle.std.specs.Str.{bytes_eq}
use Rattle.kp_kore.specs.Syntax.{Text, KorePattern}
use Rattle.kp_kore.specs.Parts.{free_variables}
use Rattle.kp_kore.specs.Rules.{RewriteRule}
use Rattle.kp_kore.specs.Theory.{Theory}
use Rattle.kp_kore.specs.Steps.{Fires, StepsIn}
use Rattle.kp_kore.specs.Replies.{is_listed, IsAbsent}
use Rattle.kp_kore.specs.AtHand.{OfEach, OfSome}
use Rattle.kp_kore.specs.Onward.{Leads, Passes}
use Rattle.kp_kore.specs.Cases.{HaveOneSort, HasTurnAlone}
use Rattle.kp_kore.specs.Value.{Value}
use Rattle.kp_symbolic.specs.States.{SymbolicState}
use Rattle.kp_symbolic.specs.WellFormed.{AreAtHand}
use Rattle.kp_case_laws.specs.Parts.{whole, OfEachInstance, IsGrown}
use Rattle.kp_case_laws.specs.NextStates.{StepCase, AreStepCases, IsWithinHand, IsPatternOf, HaveValues}
use Rattle.kp_case_laws.specs.Runs.{StatePasses, StateReaches, HasRunTo, RunEndsBy}

-- the case of one rule alone, which fires on each instance of the state
pub record IsAloneBy (t : Theory) (used : List Text) (s : SymbolicState) (r : RewriteRule) (k : StepCase) : Type 0 where
  pub cases : AreStepCases t s (k ∷ [])
  pub hand : IsWithinHand t.signature s k
  pub by_rule : k.rule ≡ Some r
  pub of_theory : Contains t.rules r
  pub fires : OfEachInstance t.signature (whole s) (λ w c. Fires t.signature r.body c)
  pub grown : IsGrown t.signature used (whole s) (whole k.next)

-- a run goes on by one rule alone
abbrev pub GoesOnAlone : Theory → Type 0
GoesOnAlone t =
    (used : List Text) (s later : SymbolicState) (d : ℕ) (r : RewriteRule) (k : StepCase) →
    HasRunTo t used s later d → IsAloneBy t used later r k → HasRunTo t used s k.next (suc d)

-- and passes the state, where the rule isn't listed
abbrev pub PassesOnAlone : Theory → Type 0
PassesOnAlone t =
    (used listed : List Text) (s later : SymbolicState) (d : ℕ) (r : RewriteRule) (k : StepCase) →
    HasRunTo t used s later d → StatePasses t listed s d → IsAloneBy t used later r k → is_listed listed r ≡ false → StatePasses t listed s (suc d)

-- where it is one to stop behind, the run ends by it
abbrev pub EndsByAlone : Theory → Type 0
EndsByAlone t =
    (used listed : List Text) (s later : SymbolicState) (d : ℕ) (r : RewriteRule) (k : StepCase) →
    HasRunTo t used s later d → StatePasses t listed s d → IsAloneBy t used later r k → RunEndsBy t listed s d r.id

-- ---- as patterns

-- The request's pattern has exactly the state's variables, each name in it is in use, and q is the later state's, of its variables;
-- each name at hand has one sort, and the sorts have values.
pub record AreEndsOf (t : Theory) (used : List Text) (p q : KorePattern) (s later : SymbolicState) : Type 0 where
  pub first : IsPatternOf t.signature p s
  pub all : AreAtHand s.variables (free_variables p)
  pub in_use : (x : Text) → list_any (bytes_eq x) used ≡ false → IsAbsent x p
  pub last : IsPatternOf t.signature q later
  pub one_sort : HaveOneSort later.variables
  pub values : HaveValues t.signature later.variables

abbrev pub LeadsAsPatterns : Theory → Type 0
LeadsAsPatterns t =
    (used : List Text) (p q : KorePattern) (s later : SymbolicState) (d : ℕ) →
    HasRunTo t used s later d → AreEndsOf t used p q s later → Leads t p q d

abbrev pub PassesAsPattern : Theory → Type 0
PassesAsPattern t =
    (listed : List Text) (p : KorePattern) (s : SymbolicState) (d : ℕ) →
    IsPatternOf t.signature p s → AreAtHand s.variables (free_variables p) → StatePasses t listed s d → Passes t listed p d

abbrev pub ReachesAsPattern : Theory → Type 0
ReachesAsPattern t =
    (p : KorePattern) (s : SymbolicState) (n : ℕ) →
    IsPatternOf t.signature p s → StateReaches t s n → OfSome t.signature [] p (λ v c. (later : Value) × StepsIn t n c later)

abbrev pub EndsAsPattern : Theory → Type 0
EndsAsPattern t =
    (listed : List Text) (p : KorePattern) (s : SymbolicState) (before : ℕ) (id : Text) →
    IsPatternOf t.signature p s → AreAtHand s.variables (free_variables p) → RunEndsBy t listed s before id →
    Passes t listed p before × OfEach t.signature [] p (λ v c. (later : Value) → StepsIn t before c later → HasTurnAlone t id later)
