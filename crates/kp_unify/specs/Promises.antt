-- What the calls promise that take a left side through a part, by name.
-- Source: this project.
use Rattle.std.specs.Prelude.{◌≡◌, ◌∷◌, [], ℕ, Bool, true, IsTrue, List, Vec, Option, Result, IfOk, MatchBool, MatchOption, length, map}
use Rattle.std.specs.List.{AllByRecursion, filter}
use Rattle.std.specs.declared.alloc.Global.{Global}
use Rattle.kp_kore.specs.Syntax.{Text, KoreSort}
use Rattle.kp_kore.specs.Parts.{SortedName}
use Rattle.kp_kore.specs.Signature.{KoreSignature, construction, meaning_of, constructor_of, IsHeadOf}
use Rattle.kp_kore.specs.Value as model
use Rattle.kp_kore.specs.Value.{constructed, head_of}
use Rattle.kp_names.specs.Met.{Lists}
use Rattle.kp_ground.specs.View.{value_view, values_of}
use Rattle.kp_ground.specs.declared.value.Value.{Value}
use Rattle.kp_heads.specs.Heads.{IsLive}
use Rattle.kp_rules.specs.Skeletons.{Form, forms_of}
use Rattle.kp_symbolic.specs.Heads.{passes_head}
use Rattle.kp_symbolic.specs.States.{HeadTest, Literal}
use Rattle.kp_symbolic.specs.Solving.{Equation}
use Rattle.kp_symbolic.specs.Terms.{SymbolicTerm, replacement_for}
use Rattle.kp_symbolic.specs.View.{term_view, terms_of, variables_view, clauses_view}
use Rattle.kp_symbolic.specs.declared.term.Term.{Term}
use Rattle.kp_symbolic.specs.declared.clause.Clause.{Clause}
use Rattle.kp_case_laws.specs.Parts.{StatePart}
use Rattle.kp_case_laws.specs.Cases as cases
use Rattle.kp_case_laws.specs.Courses as courses
use Rattle.kp_case_laws.specs.Courses.{FormPair, IsSortedEquality, replaced_course}
use Rattle.kp_case_laws.specs.Narrowings.{tested, shared_heads, has_other_head, all_unknown, constructor_term, part_with_term}
use Rattle.kp_case_laws.specs.Rows.{HasMembers}
use Rattle.kp_unify.specs.Narrowed.{NumberedPart, equation_of, with_split}
use Rattle.kp_unify.specs.Replaced.{pair_of, pairs_of}
use Rattle.kp_unify.specs.Views.{signature_of, part_view, numbered_view, met_view, course_view, stage_view, IsSetting}
use Rattle.kp_unify.specs.Way.{IsNarrowedToSort, IsNarrowedToConstructor, IsPlacedEquality, IsGoing, IsPlaced, IsAllApart, IsNextPair, IsGone, GoesOnIf, IsMeetable, IsMeeting, bound_stage, members_stage}
use Rattle.kp_unify.specs.declared.part.Part.{Part}
use Rattle.kp_unify.specs.declared.part.Meeting.{Meeting}
use Rattle.kp_unify.specs.declared.part.Setting.{Setting}
use Rattle.kp_unify.specs.declared.course.Course.{Course}
use Rattle.kp_unify.specs.declared.new_names.New.{New}

-- ---- values and heads

-- the value that the constructor builds of these
abbrev pub built_of : Text → List Value → model.Value
built_of c us = constructed c (values_of (map value_view us))

-- another head than the constructor's
abbrev pub HasOtherHead : model.Value → Text → Type 0
HasOtherHead u c = ¬ (head_of u ≡ constructor_of c)

-- some value of the sort has the constructor for its head
abbrev pub HasValueBuiltBy : KoreSignature → KoreSort → Text → Type 0
HasValueBuiltBy g s c = IsHeadOf g s (constructor_of c) × IsLive g (constructor_of c)

-- one literal for each head that the variable's sort shares with the other and that passes the test: it is the variable's
abbrev pub shared_literals : KoreSignature → SortedName → KoreSort → HeadTest → List Literal
shared_literals g x s test = map (tested g true x) (filter (passes_head g test) (shared_heads g x s))

-- ---- narrowings

-- the equation's term stands in its variable's place in all that was found and is to come
abbrev pub IsReplacedBy : KoreSignature → Equation → Course → Course → Type 0
IsReplacedBy g e old new = course_view new ≡ replaced_course g e (part_view old.part) (course_view old)

-- the part in which the variable is the term of new variables
abbrev pub IsPartWith : KoreSignature → Part → SortedName → SymbolicTerm → New → Part → Type 0
IsPartWith g old x t new p = part_view p ≡ part_with_term g (equation_of x t) (variables_view new.variables.items) (part_view old)

-- the course goes on in that part, with the term in the variable's place
abbrev pub IsCourseWith : KoreSignature → Course → SortedName → SymbolicTerm → New → Course → Type 0
IsCourseWith g old x t new k =
    let e = equation_of x t in
    course_view k ≡ replaced_course g e (part_with_term g e (variables_view new.variables.items) (part_view old.part)) (course_view old)

-- the part in which these clauses are true is split off, unless they never are
abbrev pub IsSplitBy : Course → List (List Literal) → Course → Type 0
IsSplitBy old others new = map numbered_view new.apart.items ≡ with_split (numbered_view old.part) others (map numbered_view old.apart.items)

-- the clauses that the variable has another head than the constructor of so many arguments
abbrev pub TellsOtherHead : {E : Type 0} → KoreSignature → SortedName → Text → ℕ → Result (Vec Clause Global) E → Type 0
TellsOtherHead g x c arguments result =
    (new : List SortedName) → length new ≡ arguments → meaning_of g c ≡ construction →
    IfOk result (λ cs. clauses_view cs.items ≡ has_other_head g x c new)

-- the constructor's term, where its members are new variables
abbrev pub BuildsOfNew : {E : Type 0} → KoreSignature → Text → List Term → Result Term E → Type 0
BuildsOfNew g c terms result = (xs : List SortedName) → terms_of (map term_view terms) ≡ all_unknown xs → IfOk result (λ t. term_view t ≡ constructor_term g c xs)

-- behind the call, the variable is a new one of the sort
abbrev pub NarrowsToSort : {E : Type 0} → Setting → Course → SortedName → KoreSort → Result Term E → Course → Type 0
NarrowsToSort setting old x s result new =
    (used : List Text) → let g = signature_of setting in Lists used setting.met.now →
    IfOk result (λ t. IsNarrowedToSort g used x s (stage_view old) (stage_view new) (term_view t))

-- behind the call, the variable is the constructor of new ones
abbrev pub NarrowsToConstructor : {E : Type 0} → Setting → Course → SortedName → Text → Result (Vec Term Global) E → Course → Type 0
NarrowsToConstructor setting old x c result new =
    (used : List Text) → let g = signature_of setting in Lists used setting.met.now →
    IfOk result (λ ts. IsNarrowedToConstructor g used x c (stage_view old) (stage_view new) (terms_of (map term_view ts.items)))

-- ---- a pair

-- Where the pair of the term and a form that asks for the sort is the next: a term that has the sort stands in its place, or the
-- left side stands for no instance.
abbrev pub PlacesTerm : {E : Type 0} → Setting → Course → SymbolicTerm → KoreSort → Result (Option Term) E → Course → Type 0
PlacesTerm setting old t s result new =
    (used : List Text) (left : Form) (p : StatePart) (form : Form) → let g = signature_of setting in
    IsSetting used setting → IsGoing g used left p form s (stage_view old) t →
    IfOk result (λ o. MatchOption o (IsAllApart g left p) (λ u. IsPlaced g used left p form s (stage_view new) (term_view u)))

-- where the pair is the next that this left side has to meet, the course goes on behind it, or the left side stands for no instance
abbrev pub GoesOnBehind : {E : Type 0} → KoreSignature → List Text → Form → StatePart → Course → FormPair → Result Bool E → Course → Type 0
GoesOnBehind g used left p old q result new = IsNextPair g used left p (stage_view old) q → IfOk result (λ b. GoesOnIf b g used left p (stage_view new))

-- the pair is met, whatever the left side and the part
abbrev pub MeetsPair : {E : Type 0} → Setting → Course → FormPair → Result Bool E → Course → Type 0
MeetsPair setting old q result new =
    (used : List Text) (left : Form) (p : StatePart) → IsSetting used setting → GoesOnBehind (signature_of setting) used left p old q result new

-- each pair of the term and a form of this constructor with these members is met
abbrev pub MeetsConstructor : {E : Type 0} → Setting → Course → Text → List Form → SymbolicTerm → Result Bool E → Course → Type 0
MeetsConstructor setting old c members t result new =
    (used : List Text) (left : Form) (p : StatePart) (form : Form) → HasMembers form c (forms_of members) → IsSetting used setting →
    GoesOnBehind (signature_of setting) used left p old (pair_of form t) result new

-- the same where the term is a value, whatever the signature
abbrev pub MeetsValue : {E : Type 0} → Course → Text → List Form → SymbolicTerm → Result Bool E → Course → Type 0
MeetsValue old c members t result new =
    (g : KoreSignature) (used : List Text) (left : Form) (p : StatePart) (form : Form) → HasMembers form c (forms_of members) →
    GoesOnBehind g used left p old (pair_of form t) result new

-- the members with their terms are the next pairs, or there isn't a term for each
abbrev pub AddsMembers : Bool → Course → List Form → List Term → Course → Type 0
AddsMembers b old members terms new =
    MatchBool b ((length members ≡ length terms) × (stage_view new ≡ members_stage (stage_view old) (pairs_of members (map term_view terms)))) (¬ (length members ≡ length terms))

-- the rule's variable stands for the term; where it stands for another already, both are to be equal
abbrev pub IsBoundOn : Course → Text → KoreSort → SymbolicTerm → Course → Type 0
IsBoundOn old x s t new = stage_view new ≡ bound_stage (stage_view old) x s t (replacement_for (stage_view old).course.bindings x)

-- ---- the outcome

-- no pair is left behind a course on its way, or the left side stands for no instance
abbrev pub RunsToItsEnd : {E : Type 0} → Setting → Course → Result Bool E → Course → Type 0
RunsToItsEnd setting old result new =
    (used : List Text) (left : Form) (p : StatePart) → let g = signature_of setting in IsSetting used setting → IsGone g used left p (stage_view old) →
    IfOk result (λ b. MatchBool b (IsGone g used left p (stage_view new) × ((stage_view new).course.pairs ≡ [])) (IsAllApart g left p))

-- where both sides have the equality's sort for each instance of some part, they have it by their form
abbrev pub IsPlacedIf : Bool → KoreSignature → courses.Equality → Type 0
IsPlacedIf b g e = (p : StatePart) → IsTrue b → IsSortedEquality g p e → IsPlacedEquality g e

-- the same of each equality
abbrev pub ArePlacedIf : Bool → KoreSignature → List courses.Equality → Type 0
ArePlacedIf b g es = (p : StatePart) → IsTrue b → AllByRecursion (IsSortedEquality g p) es → AllByRecursion (IsPlacedEquality g) es

-- what is met at the end of a course
abbrev pub met_at_end : Course → List Clause → cases.MetPart
met_at_end k equations = record { part = part_view k.part; equations = clauses_view equations; bindings = (stage_view k).course.bindings }

-- the part that is met with those that aren't, or the left side stands for no instance
abbrev pub TellsMeeting : KoreSignature → List Text → Form → StatePart → Option Meeting → Type 0
TellsMeeting g used left p o =
    MatchOption o (IsAllApart g left p) (λ m. IsMeeting g used left p (met_view m.met) m.met.part.next (map numbered_view m.apart.items))

-- what a course tells of its part, where no pair is left
abbrev pub MeetsAtEnd : {E : Type 0} → KoreSignature → Course → Result (Option Meeting) E → Type 0
MeetsAtEnd g k result =
    (used : List Text) (left : Form) (p : StatePart) → IsGone g used left p (stage_view k) → (stage_view k).course.pairs ≡ [] →
    IfOk result (TellsMeeting g used left p)

-- what the left side makes of a part that it can be tried on
abbrev pub MeetsPart : {E : Type 0} → Setting → NumberedPart → Form → Result (Option Meeting) E → Type 0
MeetsPart setting q left result =
    (used : List Text) → let g = signature_of setting in IsSetting used setting → IsMeetable g used left q → IfOk result (TellsMeeting g used left q.part)
