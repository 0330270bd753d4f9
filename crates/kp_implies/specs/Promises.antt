-- What the call promises, and what its two sides are as they are read.
-- Source: this project.
use Rattle.std.specs.Prelude.{◌≡◌, ◌++◌, true, None, Some, List, Option, Result, IfOk}
use Rattle.std.specs.List.{AllByRecursion, list_any}
use Rattle.std.specs.Str.{bytes_eq}
use Rattle.kp_kore.specs.Syntax.{Text, KoreSort, KorePattern}
use Rattle.kp_kore.specs.Parts.{variable_names}
use Rattle.kp_kore.specs.Signature.{KoreSignature}
use Rattle.kp_kore.specs.Rules.{top_binders, under_binders, have_distinct_names}
use Rattle.kp_kore.specs.Implied.{Implied, IsOfSort}
use Rattle.kp_signature.specs.Verify.{VerifiesAs}
use Rattle.kp_signature.specs.Places.{own_sort}
use Rattle.kp_symbolic.specs.States.{Literal, SymbolicState, HasInstancesOf}
use Rattle.kp_symbolic.specs.Solving.{IsReadAs}
use Rattle.kp_symbolic.specs.Endings as endings
use Rattle.kp_symbolic_laws.specs.Runs.{HasOneSortEach}
use Rattle.kp_symbolic_laws.specs.Safe.{IsSafe}
use Rattle.kp_unify.specs.Views.{signature_of, met_view, IsSetting}
use Rattle.kp_unify.specs.declared.part.Meeting.{Meeting}
use Rattle.kp_unify.specs.declared.part.Setting.{Setting}
use Rattle.kp_step.specs.Ready.{IsReadyState}
use Rattle.kp_step.specs.Views.{numbered_views}
use Rattle.kp_sides.specs.Sides.{side_fault, AreComparable}
use Rattle.kp_goals.specs.Consequents.{Consequent, IsConsequent, beside}
use Rattle.kp_goals.specs.Exact.{AreClear, IsVerifiedOf, IsPredicateOf, IsRightClause}
use Rattle.kp_goals.specs.Goals.{IsAskedIn}
use Rattle.kp_implies.specs.Answers.{IsRightOfSides}
use Rattle.kp_implies.specs.Printed.{told_of}
use Rattle.kp_implies.specs.Steps.{IsSometimes, IsLeft, IsMet, IsUnmet, TellsParts, IsAnswered}
use Rattle.kp_implies.specs.Told.{IsToldAs}
use Rattle.kp_implies.specs.declared.answer.Implication.{Implication}
use Rattle.kp_implies.specs.declared.parts.FoundAmong.TheVariants as searched
use Rattle.kp_implies.specs.declared.shown.Open.{Open}

-- the code's answer is a right one
pub record IsRightFor (g : KoreSignature) (a c : KorePattern) (r : Implication) : Type 0 where
  pub answer : endings.Result Implied
  pub is_told : IsToldAs answer r
  pub right : IsRightOfSides g a c answer

-- two verified sides without a fault, over the names of both
abbrev pub AnswersSides : {E : Type 0} → Setting → KorePattern → KorePattern → KoreSort → Result Implication E → Type 0
AnswersSides setting a c sort result =
    (other : KoreSort) → let g = signature_of setting in IsSetting (variable_names a ++ variable_names c) setting → VerifiesAs g a sort → VerifiesAs g c other →
    side_fault g a ≡ None → side_fault g (under_binders c) ≡ None → AreComparable g a c → IfOk result (IsRightFor g a c)

-- The two sides are read as a state, with the consequent's free variables at hand, and a consequent. No bound variable has the name of
-- another or of one at hand.
pub record IsQuestion (g : KoreSignature) (used : List Text) (a c : KorePattern) (s : SymbolicState) (k : Consequent) : Type 0 where
  pub read : SymbolicState
  pub read_as : IsReadAs g a read
  pub instances : HasInstancesOf g a read
  pub is : s ≡ beside read c
  pub of_sort : IsOfSort g s.sort a
  pub ready : IsReadyState g used s 1
  pub consequent : IsConsequent g c k
  pub distinct : have_distinct_names (top_binders c) ≡ true
  pub clear : AreClear c s.variables
  pub in_use : AllByRecursion (λ y. list_any (bytes_eq y.name) used ≡ true) (top_binders c)
  pub one_sort_each : HasOneSortEach (s.variables ++ top_binders c)
  pub term : IsVerifiedOf g (s.variables ++ top_binders c) consequent.pattern
  pub sort : own_sort g consequent.pattern ≡ Some s.sort
  pub predicates : AllByRecursion (IsPredicateOf g (s.variables ++ top_binders c)) k.predicates

-- what is answered of a state and a consequent that two sides are read as
abbrev pub AnswersQuestion : {E : Type 0} → Setting → SymbolicState → Consequent → Result Implication E → Type 0
AnswersQuestion setting s k result =
    (used : List Text) (a c : KorePattern) → let g = signature_of setting in IsSetting used setting → IsQuestion g used a c s k → IfOk result (IsAnswered g used s k)

-- ---- on the way

-- the state has an instance, or it isn't decided whether it has one
abbrev pub TellsOwn : KoreSignature → SymbolicState → Option Open → Type 0
TellsOwn g s None = IsSometimes g s
TellsOwn g s (Some o) = IsLeft g s o

-- what is answered of a question whose state isn't known to have no instance
abbrev pub AnswersOwn : {E : Type 0} → Setting → SymbolicState → Consequent → Option Open → Result Implication E → Type 0
AnswersOwn setting s k own result =
    (used : List Text) (a c : KorePattern) → let g = signature_of setting in IsSetting used setting → IsQuestion g used a c s k → TellsOwn g s own → IfOk result (IsAnswered g used s k)

-- the same where no instance of the state is one of the consequent
abbrev pub AnswersUnmet : {E : Type 0} → KoreSignature → SymbolicState → Option Open → Result Implication E → Type 0
AnswersUnmet g s own result = (used : List Text) (k : Consequent) → TellsOwn g s own → IsUnmet g s k → IfOk result (IsAnswered g used s k)

-- where this part is met, with those that aren't
abbrev pub AnswersMeeting : {E : Type 0} → KoreSignature → SymbolicState → Consequent → Meeting → Option Open → Result Implication E → Type 0
AnswersMeeting g s k meeting own result =
    (used : List Text) (a c : KorePattern) (m : IsMet g used s k) → IsQuestion g used a c s k → m.met ≡ met_view meeting.met → m.apart ≡ numbered_views meeting.apart.items → TellsOwn g s own →
    IfOk result (IsAnswered g used s k)

-- where the part with the state p is met, and this was found of the others
abbrev pub AnswersPart : {E : Type 0} → KoreSignature → SymbolicState → Consequent → SymbolicState → Option Open → Option Open → Result Implication E → Type 0
AnswersPart g s k p own apart result =
    (used : List Text) (a c : KorePattern) (m : IsMet g used s k) → IsQuestion g used a c s k → m.met.part.state ≡ p → TellsOwn g s own → TellsParts g m.apart (searched.Rest apart) →
    IfOk result (IsAnswered g used s k)

-- where these are the goals of that part
abbrev pub AnswersGoals : {E : Type 0} → KoreSignature → SymbolicState → Consequent → SymbolicState → List (List Literal) → Option Open → Option Open → Result Implication E → Type 0
AnswersGoals g s k p goals own apart result =
    (used : List Text) (m : IsMet g used s k) → m.met.part.state ≡ p → IsSafe g p → TellsOwn g s own → TellsParts g m.apart (searched.Rest apart) → IsAskedIn g k (told_of g k s) m.met.part goals →
    AllByRecursion (IsRightClause g (p.variables ++ k.bound)) goals → IfOk result (IsAnswered g used s k)
