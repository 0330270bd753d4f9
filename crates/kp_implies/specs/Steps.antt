-- What is found of two sides one after the other, and what is answered then.
-- Source: this project.
use Rattle.std.specs.Prelude.{◌≡◌, ◌⊎◌, ℕ, true, false, min, List, [], ◌∷◌, ◌++◌, Option, Some, None, ⊤, Bool, MatchBool}
use Rattle.std.specs.List.{AllByRecursion, Contains}
use Rattle.kp_kore.specs.Syntax.{Text, KorePattern, top, bottom}
use Rattle.kp_kore.specs.Signature.{KoreSignature}
use Rattle.kp_kore.specs.Value.{Value, HasSort}
use Rattle.kp_kore.specs.Implied.{Implied, not_valid, valid}
use Rattle.kp_symbolic.specs.States.{Literal, SymbolicState, CanBeTrue}
use Rattle.kp_symbolic.specs.Plain.{IsPlainState}
use Rattle.kp_symbolic.specs.Verdicts.{Weighed, undecided, IsRightVerdict, IsTooHeavy}
use Rattle.kp_symbolic.specs.Shown.{Undecided, unknown_clauses, weight_passed, most_told}
use Rattle.kp_symbolic.specs.Endings.{Result, answered, what_is_undecided, IsPredicateOf}
use Rattle.kp_symbolic.specs.View.{clauses_view}
use Rattle.kp_symbolic.specs.Writing.{InjectsWhereItStands}
use Rattle.kp_satisfiability.specs.Answers.{IsWeighedAs}
use Rattle.kp_satisfiability.specs.Read.{HasSortedClauses}
use Rattle.kp_limits.specs.Compared.{compared_count}
use Rattle.kp_symbolic_laws.specs.Safe.{IsSafe}
use Rattle.kp_case_laws.specs.Parts.{StatePart, whole}
use Rattle.kp_case_laws.specs.Cases.{MetPart, left_side, IsApart}
use Rattle.kp_unify.specs.Narrowed.{NumberedPart}
use Rattle.kp_unify.specs.Way.{IsMeeting}
use Rattle.kp_step.specs.Laws.{CanBeDenied}
use Rattle.kp_goals.specs.Consequents.{Consequent, left_of, MeetsConsequent}
use Rattle.kp_goals.specs.Exact.{IsRightClause}
use Rattle.kp_goals.specs.Goals.{IsAskedIn, IsAskedAs, is_unbound, without_goal}
use Rattle.kp_implies.specs.Printed.{told_of, substitution_of}
use Rattle.kp_implies.specs.Open.{IsGoalOpen, ShowsGoal, IsLeftOpen, ComparesWithin}
use Rattle.kp_implies.specs.Answers.{PassesLimit}
use Rattle.kp_implies.specs.Told.{IsToldAs}
use Rattle.kp_implies.specs.declared.answer.Implication.{Implication}
use Rattle.kp_implies.specs.declared.shown.Open.{Open}
use Rattle.kp_implies.specs.declared.parts.Found.{Found}
use Rattle.kp_implies.specs.declared.parts.Found.TheVariants as found
use Rattle.kp_implies.specs.declared.parts.FoundAmong.{FoundAmong}
use Rattle.kp_implies.specs.declared.parts.FoundAmong.TheVariants as searched

-- ---- states

-- some values of the variables at hand make the clauses true; or none do
abbrev pub IsSometimes : KoreSignature → SymbolicState → Type 0
IsSometimes g s = CanBeTrue g s.variables s.clauses

abbrev pub IsNever : KoreSignature → SymbolicState → Type 0
IsNever g s = ¬ CanBeTrue g s.variables s.clauses

-- where a weight is passed, so many whole-number variables are compared
abbrev pub IsCompared : KoreSignature → SymbolicState → Option Weighed → ℕ → Type 0
IsCompared g s None n = ⊤
IsCompared g s (Some h) n = n ≡ compared_count g s

-- whether the clauses can be true isn't decided; this is what is shown
pub record IsLeft (g : KoreSignature) (s : SymbolicState) (o : Open) : Type 0 where
  pub over : Option Weighed
  pub told : IsWeighedAs over o.over
  pub right : IsRightVerdict g s (undecided (clauses_view o.shown.items) over)
  pub compared : IsCompared g s over o.compared

abbrev pub TellsState : KoreSignature → SymbolicState → Found → Type 0
TellsState g s found.Instance = IsSometimes g s
TellsState g s found.Nothing = IsNever g s
TellsState g s (found.Undecided o) = IsLeft g s o

-- of two that are left open one is left
abbrev pub IsOneOf : Option Open → Open → Option Open → Type 0
IsOneOf None next r = r ≡ Some next
IsOneOf (Some first) next r = (r ≡ Some first) ⊎ (r ≡ Some next)

-- ---- parts

-- some part has an instance; or none is known to, and the one that is open isn't decided
abbrev pub TellsParts : KoreSignature → List NumberedPart → FoundAmong → Type 0
TellsParts g qs searched.Instance = (q : NumberedPart) × Contains qs q × IsSometimes g q.part.state
TellsParts g qs (searched.Rest None) = AllByRecursion (λ q. IsNever g q.part.state) qs
TellsParts g qs (searched.Rest (Some o)) = (q : NumberedPart) × Contains qs q × IsLeft g q.part.state o

-- ---- goals

-- no bound variable stands in the goal; the part has an instance without it, or none
pub record IsGoalFalse (g : KoreSignature) (k : Consequent) (p : StatePart) (c : List Literal) : Type 0 where
  pub of_hand : is_unbound k.bound c ≡ false
  pub denied : CanBeDenied g p.state.sort (c ∷ [])
  pub some : IsSometimes g (without_goal g p c).state

pub record IsGoalTrue (g : KoreSignature) (k : Consequent) (p : StatePart) (c : List Literal) : Type 0 where
  pub of_hand : is_unbound k.bound c ≡ false
  pub denied : CanBeDenied g p.state.sort (c ∷ [])
  pub never : IsNever g (without_goal g p c).state

-- the clause is shown, without a weight
abbrev pub ShowsAlone : List Literal → Open → Type 0
ShowsAlone c o = (clauses_view o.shown.items ≡ c ∷ []) × IsWeighedAs None o.over

-- a bound variable stands in the goal, and it is shown; or it isn't decided whether the part has an instance without it
pub data IsGoalLeft (g : KoreSignature) (k : Consequent) (p : StatePart) (c : List Literal) (o : Open) : Type 0 where
  not_given : is_unbound k.bound c ≡ true → ShowsAlone c o → IsGoalLeft g k p c o
  not_decided : (s : SymbolicState) → is_unbound k.bound c ≡ false → IsAskedAs g p c s → IsLeft g s o → IsGoalLeft g k p c o

abbrev pub TellsGoal : KoreSignature → Consequent → StatePart → List Literal → Found → Type 0
TellsGoal g k p c found.Instance = IsGoalFalse g k p c
TellsGoal g k p c found.Nothing = IsGoalTrue g k p c
TellsGoal g k p c (found.Undecided o) = IsGoalLeft g k p c o

-- it is true at each instance of the part, or open
abbrev pub IsGoalAsked : KoreSignature → Consequent → StatePart → List Literal → Type 0
IsGoalAsked g k p c = IsGoalTrue g k p c ⊎ IsGoalOpen g k p c

abbrev pub TellsGoals : KoreSignature → Consequent → StatePart → List (List Literal) → FoundAmong → Type 0
TellsGoals g k p goals searched.Instance = (c : List Literal) × Contains goals c × IsGoalFalse g k p c
TellsGoals g k p goals (searched.Rest None) = AllByRecursion (IsGoalTrue g k p) goals
TellsGoals g k p goals (searched.Rest (Some o)) = AllByRecursion (IsGoalAsked g k p) goals × ((c : List Literal) × Contains goals c × IsGoalLeft g k p c o)

-- what is told of a goal of each part with this state, which is safe: without bound variables; of any; of several
abbrev pub TellsGivenGoal : KoreSignature → Consequent → SymbolicState → List Literal → Found → Type 0
TellsGivenGoal g k s c f = (p : StatePart) → p.state ≡ s → is_unbound k.bound c ≡ false → IsSafe g s → IsRightClause g (s.variables ++ k.bound) c → TellsGoal g k p c f

abbrev pub TellsGoalAt : KoreSignature → Consequent → SymbolicState → List Literal → Found → Type 0
TellsGoalAt g k s c f = (p : StatePart) → p.state ≡ s → IsSafe g s → IsRightClause g (s.variables ++ k.bound) c → TellsGoal g k p c f

abbrev pub TellsGoalsAt : KoreSignature → Consequent → SymbolicState → List (List Literal) → FoundAmong → Type 0
TellsGoalsAt g k s cs r = (p : StatePart) → p.state ≡ s → IsSafe g s → AllByRecursion (IsRightClause g (s.variables ++ k.bound)) cs → TellsGoals g k p cs r

-- ---- two sides

-- each bound variable's sort has a value
abbrev pub HaveValues : KoreSignature → Consequent → Type 0
HaveValues g k = AllByRecursion (λ x. (u : Value) × HasSort g x.sort u) k.bound

-- the consequent's term meets the state's, and divides it
pub record IsMet (g : KoreSignature) (used : List Text) (s : SymbolicState) (k : Consequent) : Type 0 where
  pub met : MetPart
  pub next : ℕ
  pub apart : List NumberedPart
  pub values : HaveValues g k
  pub meets : MeetsConsequent g s k
  pub meeting : IsMeeting g used (left_of g k) (whole s) met next apart

-- no instance of the state is one of the consequent: a bound variable's sort has no value, or the terms don't meet
pub data IsUnmet (g : KoreSignature) (s : SymbolicState) (k : Consequent) : Type 0 where
  no_value : ¬ HaveValues g k → IsUnmet g s k
  no_meeting : ¬ MeetsConsequent g s k → IsUnmet g s k
  all_apart : IsApart g (left_side g (left_of g k)) (whole s) → IsUnmet g s k

-- each instance of the part that is met is one of the consequent: there is none, or all goals are true
pub data IsCarried (g : KoreSignature) (s : SymbolicState) (k : Consequent) (p : StatePart) : Type 0 where
  no_instance : IsNever g p.state → IsCarried g s k p
  by_goals : (goals : List (List Literal)) → IsAskedIn g k (told_of g k s) p goals → AllByRecursion (IsGoalTrue g k p) goals → IsCarried g s k p

-- What is answered of a state beside a consequent, by what was found.
pub data IsAnswer (g : KoreSignature) (used : List Text) (s : SymbolicState) (k : Consequent) : Result Implied → Type 0 where
  -- the state has no instance
  empty : IsNever g s → IsAnswer g used s k (answered (valid (bottom s.sort) (top s.sort)))
  -- it has one, and none is the consequent's
  unmet : IsSometimes g s → IsUnmet g s k → IsAnswer g used s k (answered not_valid)
  -- a part has one that the consequent's term doesn't meet; or at which a goal is false
  by_part : (m : IsMet g used s k) (q : NumberedPart) → Contains m.apart q → IsSometimes g q.part.state → IsAnswer g used s k (answered not_valid)
  by_goal : (m : IsMet g used s k) (goals : List (List Literal)) (c : List Literal) → IsAskedIn g k (told_of g k s) m.met.part goals → Contains goals c → IsGoalFalse g k m.met.part c →
      IsAnswer g used s k (answered not_valid)
  -- only the part that is met has some, and each is one of the consequent
  carried : (m : IsMet g used s k) → IsSometimes g s → AllByRecursion (λ q. IsNever g q.part.state) m.apart → IsCarried g s k m.met.part → InjectsWhereItStands g (substitution_of g k s) →
      IsAnswer g used s k (answered (valid (top s.sort) (substitution_of g k s)))
  -- a number or a term leaves the bounds of what is computed
  by_limit : (cause : Undecided) → PassesLimit g s k cause → IsAnswer g used s k (what_is_undecided cause)
  -- clauses are left open, or weigh too much
  by_clauses : (cs : List (List Literal)) (q : KorePattern) → IsLeftOpen g s k cs None → IsPredicateOf g s.sort cs q → IsAnswer g used s k (what_is_undecided (unknown_clauses q))
  by_weight : (cs : List (List Literal)) (h : Weighed) (q : KorePattern) → IsLeftOpen g s k cs (Some h) → IsPredicateOf g s.sort cs q →
      IsAnswer g used s k (what_is_undecided (weight_passed q h.weight (min h.number most_told)))
  -- a goal is left open; the part has an instance, and what isn't open is true there
  open_goal : (m : IsMet g used s k) (goals : List (List Literal)) (c : List Literal) (cs : List (List Literal)) (q : KorePattern) → IsPlainState g s → IsSometimes g s → IsSometimes g m.met.part.state →
      IsAskedIn g k (told_of g k s) m.met.part goals → AllByRecursion (IsGoalAsked g k m.met.part) goals → Contains goals c → ShowsGoal g k m.met.part c cs → IsPredicateOf g s.sort cs q →
      IsAnswer g used s k (what_is_undecided (unknown_clauses q))

-- the code's answer is one of these
pub record IsAnswered (g : KoreSignature) (used : List Text) (s : SymbolicState) (k : Consequent) (a : Implication) : Type 0 where
  pub answer : Result Implied
  pub is : IsAnswer g used s k answer
  pub is_told : IsToldAs answer a

-- ---- on the way

-- the terms meet, and each bound variable's sort has a value; or no instance of the state is one of the consequent
abbrev pub MeetsIf : KoreSignature → SymbolicState → Consequent → Bool → Type 0
MeetsIf g s k b = MatchBool b (HaveValues g k × MeetsConsequent g s k) (IsUnmet g s k)

-- where clauses of q are too heavy, and no more is compared than may be, these are left open
abbrev pub IsHeavyLeft : KoreSignature → SymbolicState → Consequent → SymbolicState → Type 0
IsHeavyLeft g s k q = (cs : List (List Literal)) (h : Weighed) → IsTooHeavy g q cs h → ComparesWithin g s k q → IsLeftOpen g s k cs (Some h)

-- where only the part that is met has instances, and each is one of the consequent, this is the answer
abbrev pub AnswersCarried : KoreSignature → List Text → SymbolicState → Consequent → Implication → Type 0
AnswersCarried g used s k r = (m : IsMet g used s k) → IsSometimes g s → AllByRecursion (λ q. IsNever g q.part.state) m.apart → IsCarried g s k m.met.part → IsAnswered g used s k r

-- The answer where no part has an instance that is known to be none of the consequent, and nothing else is left of the state itself: what
-- is found of the parts that its term doesn't meet, and of the goals of the one, with the state p, that it meets.
abbrev pub Concludes : KoreSignature → List Text → SymbolicState → Consequent → SymbolicState → Option Open → Option Open → Implication → Type 0
Concludes g used s k p apart goal r =
    (m : IsMet g used s k) (goals : List (List Literal)) → m.met.part.state ≡ p → HasSortedClauses g p → IsSometimes g s → IsAskedIn g k (told_of g k s) m.met.part goals →
    TellsParts g m.apart (searched.Rest apart) → TellsGoals g k m.met.part goals (searched.Rest goal) → IsAnswered g used s k r

-- the same where a goal is left open of a plain state, and this is found of the part that is met
abbrev pub ConcludesGoal : KoreSignature → List Text → SymbolicState → Consequent → (SymbolicState → Type 0) → Open → Implication → Type 0
ConcludesGoal g used s k IsPart goal r =
    (m : IsMet g used s k) (goals : List (List Literal)) → IsPlainState g s → IsSometimes g s → IsAskedIn g k (told_of g k s) m.met.part goals → IsPart m.met.part.state →
    TellsGoals g k m.met.part goals (searched.Rest (Some goal)) → IsAnswered g used s k r
