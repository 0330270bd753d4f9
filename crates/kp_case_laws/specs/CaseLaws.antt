-- The longer statements of the laws, by name.
-- Source: this project.
use Rattle.std.specs.List.{AllByRecursion, Contains}
use Rattle.std.specs.Prelude.{◌++◌, ◌↔◌, ◌∷◌, ◌≡◌, List, None, Option, Some, [], false}
use Rattle.kp_kore.specs.Parts.{SortedName, free_variables}
use Rattle.kp_kore.specs.Signature.{Head, IsHeadOf, KoreSignature, construction, constructor_of, meaning_of}
use Rattle.kp_kore.specs.Syntax.{KoreSort, Text}
use Rattle.kp_kore.specs.Division.{NoneOf}
use Rattle.kp_kore.specs.Instance.{GivesSorts, IsTrueUnder, Valuation}
use Rattle.kp_kore.specs.Rules.{Rewrite, RuleBody, rewrite}
use Rattle.kp_kore.specs.Steps.{Fires, LeadsTo}
use Rattle.kp_kore.specs.Value.{HasSort, Value, head_of}
use Rattle.kp_symbolic.specs.Solving.{Equation}
use Rattle.kp_symbolic.specs.States.{AreTrue, Literal, head_of_sort, SymbolicState, IsStateInstance}
use Rattle.kp_symbolic.specs.Terms.{SymbolicTerm, SymbolicTerms, known, replacement_for, term_instance, under_replaced, unknown, Replaced}
use Rattle.kp_symbolic.specs.WellFormed.{AreAtHand, IsWellSorted}
use Rattle.kp_symbolic_laws.specs.Runs.{HasOneSortEach}
use Rattle.kp_rules.specs.Skeletons.{Admits, Form, Forms, any_of, anything, fixed, one_of}
use Rattle.kp_case_laws.specs.Nexts.{IsInstantiated, IsNextState, IsNextOver}
use Rattle.kp_case_laws.specs.Cases.{AreBoundIn, AreBoundOnce, AreCases, IsApart, IsLeftOf, IsMetBy, MetPart, left_side, IsBoundBy}
use Rattle.kp_case_laws.specs.Courses.{AreEqual, Asked, Asks, AsksNever, Course, FormPair, HasMeets, IsBoundRight, IsBoundTo, IsCourse, IsCovered, IsMeet, IsOfSort, IsOnCourse, IsSortedEquality, IsSortedPair, IsTermOf, MayBePut, course_in, form_variables, going_on, met_part, paired, replaced_course, with_binding, with_equality, with_pair, with_pairs}
use Rattle.kp_case_laws.specs.Narrowings.{IsForConstructor, IsNarrowing, all_unknown, constructor_term, equates, has_other_head, head_clauses, heads_outside, part_with_term}
use Rattle.kp_case_laws.specs.Parts.{DependsOnHand, HoldsWhere, IsDivided, IsDividedWhere, IsRestricted, IsSortedPart, IsTold, OfEachInstance, StatePart}
use Rattle.kp_case_laws.specs.Rows.{AreTermsOf, AsksSort, HasMembers, IsMadeOf, IsOfHead}

-- ---- parts, narrowings, cases

-- the part by a narrowing, and the part by the others, divide the part
abbrev pub IsDividedInTwo : KoreSignature → Type 0
IsDividedInTwo g =
    (p r q : StatePart) (new : List SortedName) (clauses others : List (List Literal)) →
    IsNarrowing g p.state.variables new clauses others → IsTold g p → DependsOnHand g p.state →
    IsRestricted g p clauses new r → IsRestricted g p others [] q → IsDivided g p (r ∷ q ∷ [])

-- where the others are never true, the part by a narrowing is all of it
abbrev pub IsDividedInOne : KoreSignature → Type 0
IsDividedInOne g =
    (p r : StatePart) (new : List SortedName) (clauses others : List (List Literal)) →
    IsNarrowing g p.state.variables new clauses others → IsTold g p → DependsOnHand g p.state → IsRestricted g p clauses new r →
    ((w : Valuation) → GivesSorts g w p.state.variables → ¬ AreTrue g w others) → IsDivided g p (r ∷ [])

-- a variable is a constructor of new variables, or has another head
abbrev pub IsNarrowedByConstructor : KoreSignature → Type 0
IsNarrowedByConstructor g =
    (scope : List SortedName) (x : SortedName) (c : Text) (new : List SortedName) →
    IsForConstructor g scope x c new → IsNarrowing g scope new (equates x (constructor_term g c new)) (has_other_head g x c new)

-- with a term in a variable's place, a part has the instances for which the variable's value is the term's
abbrev pub IsRestrictedByTerm : KoreSignature → Type 0
IsRestrictedByTerm g =
    (p : StatePart) (e : Equation) (new : List SortedName) → IsSortedPart g p → HasOneSortEach (p.state.variables ++ new) →
    MayBePut g (part_with_term g e new p) e → IsRestricted g p (equates e.variable e.term) new (part_with_term g e new p)

-- with a term in a variable's place, all has the sorts of its places
abbrev pub IsSortedWithTerm : KoreSignature → Type 0
IsSortedWithTerm g =
    (p : StatePart) (e : Equation) (new : List SortedName) → IsSortedPart g p → HasOneSortEach (p.state.variables ++ new) →
    MayBePut g (part_with_term g e new p) e → IsSortedPart g (part_with_term g e new p)

-- the cases of one part, and the others where they are apart, are the cases of all
abbrev pub AreCasesOfParts : KoreSignature → Type 0
AreCasesOfParts g =
    (left : Form) (p q : StatePart) (others : List StatePart) (met : Option MetPart) (apart : List StatePart) →
    IsDivided g p (q ∷ others) → AllByRecursion (IsApart g (left_side g left)) others →
    AreCases g (left_side g left) q met apart → AreCases g (left_side g left) p met (apart ++ others)

-- a rule fires on an instance of the part that it meets where the equations and its condition are true
abbrev pub FiresByItsCondition : KoreSignature → Type 0
FiresByItsCondition g =
    (r : Rewrite) (left : Form) (m : MetPart) (cs : List (List Literal)) → IsLeftOf g left r m.part →
    IsMetBy g (left_side g left) m → AllByRecursion (λ p. AreBoundIn m.bindings (free_variables p)) r.condition →
    OfEachInstance g m.part (λ w c. AreTrue g w cs ↔ AllByRecursion (IsTrueUnder g (under_replaced g m.bindings w)) r.condition) →
    HoldsWhere g (Fires g (rewrite r)) m.part (m.equations ++ cs)

-- the instances on which a rule fires lie in the part by the clauses that say so
abbrev pub LiesWhereItFires : KoreSignature → Type 0
LiesWhereItFires g =
    (body : RuleBody) (p m r : StatePart) (apart : List StatePart) (clauses : List (List Literal)) →
    IsDivided g p (m ∷ apart) → HoldsWhere g (Fires g body) m clauses → AllByRecursion (λ x. OfEachInstance g x (λ w c. ¬ Fires g body c)) apart →
    IsRestricted g m clauses [] r → IsDividedWhere g (Fires g body) p (r ∷ [])

-- the others lie in the part by the opposite, and in those that the left side doesn't meet
abbrev pub LiesWhereItIsSilent : KoreSignature → Type 0
LiesWhereItIsSilent g =
    (body : RuleBody) (p m r : StatePart) (apart : List StatePart) (clauses opposite : List (List Literal)) →
    IsDivided g p (m ∷ apart) → HoldsWhere g (Fires g body) m clauses →
    OfEachInstance g m (λ w c. (¬ AreTrue g w clauses) → AreTrue g w opposite) →
    IsRestricted g m opposite [] r → IsDividedWhere g (λ c. ¬ Fires g body c) p (r ∷ apart)

-- on no instance of the part by the opposite the rule fires
abbrev pub IsSilentInTheOpposite : KoreSignature → Type 0
IsSilentInTheOpposite g =
    (body : RuleBody) (m r : StatePart) (clauses opposite : List (List Literal)) →
    HoldsWhere g (Fires g body) m clauses → OfEachInstance g m (λ w c. AreTrue g w opposite → ¬ AreTrue g w clauses) →
    IsRestricted g m opposite [] r → OfEachInstance g r (λ w c. ¬ Fires g body c)

-- parts on which none of some rules fires are divided by one rule more
abbrev pub IsExcludedOnceMore : KoreSignature → Type 0
IsExcludedOnceMore g =
    (bodies : List RuleBody) (body : RuleBody) (s p : StatePart) (ps qs rs : List StatePart) →
    IsDividedWhere g (NoneOf g bodies) s (ps ++ p ∷ qs) → IsDividedWhere g (λ c. ¬ Fires g body c) p rs →
    IsDividedWhere g (NoneOf g (body ∷ bodies)) s (ps ++ (rs ++ qs))

-- the configurations that the rule leads to from a part's instance are instances of the next state
abbrev pub NextIsFound : KoreSignature → Type 0
NextIsFound g =
    (rule : Rewrite) (p : StatePart) (bindings : List Replaced) (ys new : List SortedName) (s : SymbolicState) (v r : Valuation) (c next : Value) →
    IsSortedPart g p → IsInstantiated g rule p bindings ys new → IsNextState g rule p bindings ys new s →
    GivesSorts g v p.state.variables → IsStateInstance g v p.state c → IsBoundBy g v bindings r → LeadsTo g rule r next → IsNextOver g p s v next

-- an instance of the next state is one of these, from the part's instance under the same values
abbrev pub NextFollows : KoreSignature → Type 0
NextFollows g =
    (rule : Rewrite) (p : StatePart) (bindings : List Replaced) (ys new : List SortedName) (s : SymbolicState) (w : Valuation) (next : Value) →
    IsInstantiated g rule p bindings ys new → IsNextState g rule p bindings ys new s → GivesSorts g w s.variables → IsStateInstance g w s next →
    IsStateInstance g w p.state (term_instance g w p.state.term) × LeadsTo g rule (under_replaced g bindings w) next

-- ---- courses

-- behind the last pair, the cases are what the course met, and the parts that were split off
abbrev pub AreCasesAtTheEnd : KoreSignature → Type 0
AreCasesAtTheEnd g =
    (left : Form) (p : StatePart) (k : Course) (apart : List StatePart) →
    IsOnCourse g left p k apart → k.pairs ≡ [] → AreCases g (left_side g left) p (Some (met_part g k)) apart

-- behind the last pair, each variable of a left side that has one sort for each name stands for a term of its sort
abbrev pub AreBoundAtTheEnd : KoreSignature → Type 0
AreBoundAtTheEnd g =
    (left : Form) (p : StatePart) (k : Course) (apart : List StatePart) → HasOneSortEach (form_variables left) →
    IsOnCourse g left p k apart → k.pairs ≡ [] → AllByRecursion (IsBoundTo g k.part k.bindings) (form_variables left)

-- where what is to be equal never is, the left side stands for no instance of the whole part
abbrev pub AreApartWhereUnequal : KoreSignature → Type 0
AreApartWhereUnequal g =
    (left : Form) (p : StatePart) (k : Course) (apart : List StatePart) → IsTold g p → IsOnCourse g left p k apart →
    OfEachInstance g k.part (λ w c. ¬ AreEqual g w k.equalities) → AreCases g (left_side g left) p None (p ∷ [])

-- the next pair gives way to what it asks
abbrev pub GivesWayToWhatItAsks : KoreSignature → Type 0
GivesWayToWhatItAsks g =
    (left : Form) (p : StatePart) (k : Course) (apart : List StatePart) (pair : FormPair) (a : Asked) →
    IsOnCourse g left p (with_pair k pair) apart → Asks g k.part k.bindings pair a → AreBoundOnce (k.bindings ++ a.bindings) →
    AllByRecursion (IsSortedEquality g k.part) a.equalities → AllByRecursion (IsBoundRight g (form_variables left) k.part) a.bindings →
    AllByRecursion (IsSortedPair g (form_variables left) k.part) a.pairs →
    ((x : SortedName) → Contains (form_variables pair.form) x → IsCovered (going_on k a) x) → IsOnCourse g left p (going_on k a) apart

-- a pair that is never admitted sets the whole part apart
abbrev pub IsApartByOnePair : KoreSignature → Type 0
IsApartByOnePair g =
    (left : Form) (p : StatePart) (k : Course) (apart : List StatePart) (pair : FormPair) → IsTold g p →
    IsOnCourse g left p (with_pair k pair) apart → AsksNever g k.part pair → AreCases g (left_side g left) p None (p ∷ [])

-- a course goes on where clauses without new variables are true, and the part where they aren't is split off
abbrev pub GoesOnWhereHeadsAreAsked : KoreSignature → Type 0
GoesOnWhereHeadsAreAsked g =
    (left : Form) (p : StatePart) (k : Course) (apart : List StatePart) (r q : StatePart) (clauses others : List (List Literal)) →
    IsOnCourse g left p k apart → IsNarrowing g k.part.state.variables [] clauses others → IsRestricted g k.part clauses [] r → IsRestricted g k.part others [] q →
    IsApart g (left_side g left) q → IsSortedPart g r → IsOnCourse g left p (course_in r k) (apart ++ q ∷ [])

-- a course goes on with a term in a variable's place, and the part where the variable isn't the term is split off
abbrev pub GoesOnWithTheTerm : KoreSignature → Type 0
GoesOnWithTheTerm g =
    (left : Form) (p : StatePart) (k : Course) (apart : List StatePart) (r q : StatePart) (new : List SortedName) (e : Equation) (others : List (List Literal)) →
    IsOnCourse g left p k apart → IsNarrowing g k.part.state.variables new (equates e.variable e.term) others →
    IsRestricted g k.part (equates e.variable e.term) new r → MayBePut g r e → IsSortedPart g r →
    IsRestricted g k.part others [] q → IsApart g (left_side g left) q → IsOnCourse g left p (replaced_course g e r k) (apart ++ q ∷ [])

-- the same where the variable always is the term
abbrev pub GoesOnWithTheTermAlone : KoreSignature → Type 0
GoesOnWithTheTermAlone g =
    (left : Form) (p : StatePart) (k : Course) (apart : List StatePart) (r : StatePart) (new : List SortedName) (e : Equation) (others : List (List Literal)) →
    IsOnCourse g left p k apart → IsNarrowing g k.part.state.variables new (equates e.variable e.term) others →
    IsRestricted g k.part (equates e.variable e.term) new r → MayBePut g r e → IsSortedPart g r →
    ((w : Valuation) → GivesSorts g w k.part.state.variables → ¬ AreTrue g w others) → IsOnCourse g left p (replaced_course g e r k) apart

-- a part in which the next pair isn't admitted is apart
abbrev pub IsApartWhereNotAdmitted : KoreSignature → Type 0
IsApartWhereNotAdmitted g =
    (left : Form) (k : Course) (pair : FormPair) (q : StatePart) (others : List (List Literal)) →
    IsCourse g left (with_pair k pair) → IsRestricted g k.part others [] q →
    ((w r : Valuation) → GivesSorts g w k.part.state.variables → AreTrue g w others → ¬ Admits g r pair.form (term_instance g w pair.term)) →
    IsApart g (left_side g left) q

-- ---- rows

-- any value at all: a term asks nothing more
abbrev pub AnythingAsksNothing : KoreSignature → Type 0
AnythingAsksNothing g =
    (left : Form) (p : StatePart) (k : Course) (apart : List StatePart) (t : SymbolicTerm) →
    IsOnCourse g left p (with_pair k (record { form = anything; term = t })) apart → IsOnCourse g left p k apart

-- any value of the sort: a term that has it asks nothing more
abbrev pub AnyAsksNothing : KoreSignature → Type 0
AnyAsksNothing g =
    (left : Form) (p : StatePart) (k : Course) (apart : List StatePart) (s : KoreSort) (t : SymbolicTerm) →
    IsOnCourse g left p (with_pair k (record { form = any_of s; term = t })) apart → IsOfSort g k.part s t → IsOnCourse g left p k apart

-- a variable that stands first is bound to the term
abbrev pub FirstIsBound : KoreSignature → Type 0
FirstIsBound g =
    (left : Form) (p : StatePart) (k : Course) (apart : List StatePart) (x : Text) (s : KoreSort) (t : SymbolicTerm) →
    IsOnCourse g left p (with_pair k (record { form = one_of x s; term = t })) apart → IsOfSort g k.part s t → replacement_for k.bindings x ≡ None →
    IsOnCourse g left p (with_binding k (record { name = x; term = t })) apart

-- a variable that stands again asks that both terms are equal
abbrev pub AgainIsEqual : KoreSignature → Type 0
AgainIsEqual g =
    (left : Form) (p : StatePart) (k : Course) (apart : List StatePart) (x : Text) (s : KoreSort) (t b : SymbolicTerm) →
    HasOneSortEach (form_variables left) → IsOnCourse g left p (with_pair k (record { form = one_of x s; term = t })) apart →
    IsOfSort g k.part s t → replacement_for k.bindings x ≡ Some b →
    IsOnCourse g left p (with_equality k (record { sort = s; left = b; right = t })) apart

-- a value asks that the term is it
abbrev pub ValueIsEqual : KoreSignature → Type 0
ValueIsEqual g =
    (left : Form) (p : StatePart) (k : Course) (apart : List StatePart) (s : KoreSort) (u : Value) (t : SymbolicTerm) →
    IsOnCourse g left p (with_pair k (record { form = fixed u; term = t })) apart → IsOfSort g k.part s t → IsWellSorted g s (known u) →
    IsOnCourse g left p (with_equality k (record { sort = s; left = t; right = known u })) apart

-- a value against itself asks nothing more
abbrev pub SameAsksNothing : KoreSignature → Type 0
SameAsksNothing g =
    (left : Form) (p : StatePart) (k : Course) (apart : List StatePart) (u z : Value) →
    IsOnCourse g left p (with_pair k (record { form = fixed u; term = known z })) apart → z ≡ u → IsOnCourse g left p k apart

-- a constructor against its own value asks its members
abbrev pub ConstructorAsksMembers : KoreSignature → Type 0
ConstructorAsksMembers g =
    (left : Form) (p : StatePart) (k : Course) (apart : List StatePart) (form : Form) (t : SymbolicTerm) (c : Text) (fs : Forms) (ts : SymbolicTerms) (ps : List FormPair) →
    IsOnCourse g left p (with_pair k (record { form = form; term = t })) apart → HasMembers form c fs → IsMadeOf g k.part.state.variables t c ts →
    AreTermsOf g k.part.state.variables ts → paired fs ts ≡ Some ps → IsOnCourse g left p (with_pairs k ps) apart

-- a constructor's term of new variables has these as its members
abbrev pub IsMadeOfNewVariables : KoreSignature → Type 0
IsMadeOfNewVariables g =
    (hand : List SortedName) (c : Text) (new : List SortedName) →
    meaning_of g c ≡ construction → AreAtHand new hand → IsMadeOf g hand (constructor_term g c new) c (all_unknown new)

-- another head is never admitted
abbrev pub OtherHeadNever : KoreSignature → Type 0
OtherHeadNever g =
    (p : StatePart) (form : Form) (t : SymbolicTerm) (c : Text) (fs : Forms) (h : Head) → HasMembers form c fs →
    IsTermOf g p.state.variables t → IsOfHead g t h → ¬ (h ≡ constructor_of c) → AsksNever g p (record { form = form; term = t })

-- nor is another number of members
abbrev pub OtherNumberNever : KoreSignature → Type 0
OtherNumberNever g =
    (p : StatePart) (form : Form) (t : SymbolicTerm) (c : Text) (fs : Forms) (ts : SymbolicTerms) → HasMembers form c fs →
    IsMadeOf g p.state.variables t c ts → paired fs ts ≡ None → AsksNever g p (record { form = form; term = t })

-- nor is a head that the sort hasn't
abbrev pub OtherSortNever : KoreSignature → Type 0
OtherSortNever g =
    (p : StatePart) (form : Form) (s : KoreSort) (t : SymbolicTerm) (h : Head) → AsksSort g form s →
    IsTermOf g p.state.variables t → IsOfHead g t h → ¬ IsHeadOf g s h → AsksNever g p (record { form = form; term = t })

-- nor a variable of a sort that shares no value with it
abbrev pub UnsharedSortNever : KoreSignature → Type 0
UnsharedSortNever g =
    (p : StatePart) (form : Form) (x : SortedName) (s : KoreSort) → AsksSort g form s → AreAtHand (x ∷ []) p.state.variables →
    ((u : Value) → HasSort g x.sort u → ¬ HasSort g s u) → AsksNever g p (record { form = form; term = unknown x })

-- nor a variable of a sort without that head
abbrev pub MissingHeadNever : KoreSignature → Type 0
MissingHeadNever g =
    (p : StatePart) (form : Form) (x : SortedName) (c : Text) (fs : Forms) → HasMembers form c fs → AreAtHand (x ∷ []) p.state.variables →
    ((u : Value) → HasSort g x.sort u → ¬ (head_of u ≡ constructor_of c)) → AsksNever g p (record { form = form; term = unknown x })

-- a constructor isn't admitted where the variable has another head
abbrev pub NotOfOtherHead : KoreSignature → Type 0
NotOfOtherHead g =
    (w r : Valuation) (hand : List SortedName) (form : Form) (x : SortedName) (c : Text) (fs : Forms) (new : List SortedName) →
    HasMembers form c fs → IsForConstructor g hand x c new → GivesSorts g w hand → AreTrue g w (has_other_head g x c new) → ¬ Admits g r form (w x.name)

-- nor is a sort where the variable hasn't a head of the meet
abbrev pub NotOutsideMeet : KoreSignature → Type 0
NotOutsideMeet g =
    (w r : Valuation) (form : Form) (x : SortedName) (s m : KoreSort) → AsksSort g form s → IsMeet g x.sort s m →
    HasSort g x.sort (w x.name) → AreTrue g w (head_clauses g false x (head_of_sort m)) → ¬ Admits g r form (w x.name)

-- nor is a sort where the variable has a head that the sort hasn't
abbrev pub NotOutsideItsHeads : KoreSignature → Type 0
NotOutsideItsHeads g =
    (w r : Valuation) (form : Form) (x : SortedName) (s : KoreSort) → AsksSort g form s →
    HasSort g x.sort (w x.name) → AreTrue g w (heads_outside g x s) → ¬ Admits g r form (w x.name)

-- a term with a head of the sort has the sort
abbrev pub HasSortByHead : KoreSignature → Type 0
HasSortByHead g =
    (p : StatePart) (s : KoreSort) (t : SymbolicTerm) (h : Head) →
    IsTermOf g p.state.variables t → IsOfHead g t h → IsHeadOf g s h → IsOfSort g p s t

-- a variable whose value has the sort for each instance has it, where the sort has no meets
abbrev pub HasSortByValues : KoreSignature → Type 0
HasSortByValues g =
    (p : StatePart) (s : KoreSort) (x : SortedName) → AreAtHand (x ∷ []) p.state.variables →
    OfEachInstance g p (λ w c. HasSort g s (w x.name)) → ¬ HasMeets g s → IsOfSort g p s (unknown x)
