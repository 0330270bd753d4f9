-- Why a step ends without next states.
-- Source: the K Haskell backend's JSON-RPC documentation (execute: aborted); the limits are this project's.
use Rattle.std.specs.Prelude.{◌≡◌, ◌⊎◌, ◌<◌, ℕ, min, List, [], Option, Some, None}
use Rattle.std.specs.List.{AllByRecursion, Contains}
use Rattle.kp_kore.specs.Signature.{KoreSignature}
use Rattle.kp_kore.specs.Value.{Value}
use Rattle.kp_kore.specs.Instance.{Valuation, GivesSorts}
use Rattle.kp_kore.specs.Rules.{RuleBody, rewrite, ForeignLeft, foreign_rule, RewriteRule, most_priority}
use Rattle.kp_kore.specs.Theory.{Theory}
use Rattle.kp_kore.specs.Steps.{Fires, HasTurn, IsUnknownBy}
use Rattle.kp_symbolic.specs.States.{Literal, SymbolicState, IsStateInstance, CanBeTrue}
use Rattle.kp_symbolic.specs.Plain.{plain_clauses, rough_clauses}
use Rattle.kp_symbolic.specs.Verdicts.{Weighed, IsStateUndecided, IsTooHeavy}
use Rattle.kp_case_laws.specs.Parts.{StatePart, whole, OfEachInstance}
use Rattle.kp_case_laws.specs.Firing.{AreWhere}
use Rattle.kp_case_laws.specs.Turns.{NoneGoesBefore, NoneOfThese, TakesFrom}
use Rattle.kp_step.specs.Comes.{ComesFrom}
use Rattle.kp_step.specs.Remainders.{IsOneOf}
use Rattle.kp_step.specs.Meets.{MeetsRule}
use Rattle.kp_step.specs.Counted.{these_rules, ComparesWithin}
use Rattle.kp_step.specs.Places.{IsAt}
use Rattle.kp_step.specs.Limits.{PassesNone}

-- ---- clauses that aren't decided

-- the rule might rewrite the configuration: one that is read fires
abbrev pub MayRewrite : KoreSignature → RuleBody → Value → Type 0
MayRewrite g (rewrite m) c = Fires g (rewrite m) c
MayRewrite g (foreign_rule l) c = IsUnknownBy g (foreign_rule l) c

-- what is asked of a configuration: whether the rule might rewrite it and none of these before it; or whether none of these fires
abbrev pub IsAsked : KoreSignature → Option RewriteRule → List RewriteRule → Value → Type 0
IsAsked g (Some r) turns c = MayRewrite g r.body c × NoneGoesBefore g turns r c
IsAsked g None turns c = NoneOfThese g turns c

-- the state's own clauses that aren't plain are shown of a part that passes a weight; those that are plain can be true
pub record ShowsOwn (g : KoreSignature) (s p : SymbolicState) (shown : List (List Literal)) : Type 0 where
  pub weight : Weighed
  pub all : List (List Literal)
  pub heavy : IsTooHeavy g p all weight
  pub plain : CanBeTrue g s.variables (plain_clauses g s)
  pub some : ¬ (rough_clauses g s ≡ [])
  pub are : shown ≡ rough_clauses g s

-- What is shown of a part that isn't decided: its clauses that aren't plain. Where it passes a weight, the state's own that
-- aren't plain, if there are any; else all clauses of the part, with the weight, as where the state's own clauses pass it.
abbrev pub IsShownOf : KoreSignature → SymbolicState → SymbolicState → List (List Literal) → Option Weighed → Type 0
IsShownOf g s p shown None = IsStateUndecided g p shown ⊎ ShowsOwn g s p shown
IsShownOf g s p shown (Some h) = IsTooHeavy g p shown h × ((rough_clauses g s ≡ []) ⊎ IsTooHeavy g s s.clauses h)

-- a foreign rule is asked by itself, and the state before all rules
abbrev pub IsAskedAlone : SymbolicState → Option RewriteRule → List RewriteRule → StatePart → Type 0
IsAskedAlone s (Some r) turns part = (turns ≡ []) × (left : ForeignLeft) × (r.body ≡ foreign_rule left)
IsAskedAlone s None turns part = (turns ≡ []) × (part ≡ whole s)

-- whatever rule goes before and has its turn on an instance of the state is one of these
abbrev pub AreAllBefore : Theory → SymbolicState → Option RewriteRule → List RewriteRule → Type 0
AreAllBefore t s rule turns = OfEachInstance t.signature (whole s) (λ w c. (q : RewriteRule) → Contains t.rules q → TakesFrom q rule → HasTurn t q c → Contains turns q)

-- It isn't decided whether one of the parts where something is asked has an instance. Each rule of a smaller priority number has taken
-- from the parts, and each at all where no rule is asked for; but a foreign rule is asked for by itself, and the state before all
-- rules. That part comes of the state, of the rule and of those that take from it, and nothing else stands in it; each of these rules
-- meets the state. Where a weight is told, no more whole-number variables are compared than stand in the state and in these rules' left
-- sides.
pub record IsUndecidedStep (t : Theory) (s : SymbolicState) (rule : Option RewriteRule) (shown : List (List Literal)) (over : Option Weighed) : Type 0 where
  pub turns : List RewriteRule
  pub of_theory : AllByRecursion (Contains t.rules) turns
  pub meets : (body : RuleBody) → IsOneOf rule turns body → MeetsRule t.signature s body
  pub parts : List StatePart
  pub asked : AreWhere t.signature (IsAsked t.signature rule turns) (whole s) parts
  pub part : StatePart
  pub first : IsAskedAlone s rule turns part ⊎ AreAllBefore t s rule turns
  pub among : Contains parts part
  pub comes : ComesFrom t.signature (IsOneOf rule turns) (whole s) part
  pub shows : IsShownOf t.signature s part.state shown over
  pub compares : ComparesWithin t.signature s part.state (these_rules rule turns) over

-- ---- foreign rules

-- the foreign rule might rewrite some instance of the state
pub record MeetsForeign (t : Theory) (s : SymbolicState) (r : RewriteRule) : Type 0 where
  pub of_theory : Contains t.rules r
  pub valuation : Valuation
  pub configuration : Value
  pub sorts : GivesSorts t.signature valuation s.variables
  pub met : IsStateInstance t.signature valuation s configuration
  pub unknown : IsUnknownBy t.signature r.body configuration

-- it might rewrite none, or that isn't decided
abbrev pub IsPassedBy : Theory → SymbolicState → RewriteRule → Type 0
IsPassedBy t s r = OfEachInstance t.signature (whole s) (λ w c. ¬ IsUnknownBy t.signature r.body c)
    ⊎ ((shown : List (List Literal)) × (over : Option Weighed) × IsUndecidedStep t s (Some r) shown over)

-- a foreign rule's number, up to the greatest that a rule may have
abbrev pub told_number : RewriteRule → ℕ
told_number r = min r.priority most_priority

-- the foreign rule of a place goes before that of another: by number, then by place
abbrev pub GoesBefore : ℕ → RewriteRule → ℕ → RewriteRule → Type 0
GoesBefore i q j r = (told_number q < told_number r) ⊎ ((told_number q ≡ told_number r) × i < j)

-- the state passes no limit, and the foreign rule of the place might rewrite some instance; each that goes before it is passed by
pub record IsFirstMet (t : Theory) (s : SymbolicState) (place : ℕ) : Type 0 where
  pub rule : RewriteRule
  pub at : IsAt t place rule
  pub meets : MeetsForeign t s rule
  pub limits : PassesNone t.signature s
  pub before : (i : ℕ) (q : RewriteRule) (l : ForeignLeft) → IsAt t i q → q.body ≡ foreign_rule l → GoesBefore i q place rule → IsPassedBy t s q

-- no foreign rule is known to rewrite an instance, and each that goes before that of the place rewrites none
pub record IsFirstOpen (t : Theory) (s : SymbolicState) (place : ℕ) (rule : RewriteRule) : Type 0 where
  pub before : (i : ℕ) (q : RewriteRule) (l : ForeignLeft) → IsAt t i q → q.body ≡ foreign_rule l → GoesBefore i q place rule → OfEachInstance t.signature (whole s) (λ w c. ¬ IsUnknownBy t.signature q.body c)
  pub none_met : (i : ℕ) (q : RewriteRule) → IsAt t i q → IsPassedBy t s q
