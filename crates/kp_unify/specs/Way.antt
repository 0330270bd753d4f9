-- A left side on its way through a part, with the names that are in use.
-- Source: this project.
use Rattle.std.specs.Prelude.{◌≡◌, ◌⊎◌, ◌<◌, ◌≤◌, ℕ, List, [], ◌∷◌, Bool, MatchBool, Option, Some, None, map, true, false}
use Rattle.std.specs.List.{AllByRecursion, Contains, list_any}
use Rattle.std.specs.Str.{bytes_eq}
use Rattle.kp_kore.specs.Syntax.{Text, KoreSort}
use Rattle.kp_kore.specs.Parts.{SortedName, sort_list}
use Rattle.kp_kore.specs.Signature.{KoreSignature}
use Rattle.kp_kore.specs.Value.{Value}
use Rattle.kp_compile.specs.Spelled.{own_sort, places_of}
use Rattle.kp_symbolic.specs.Terms.{SymbolicTerm, unknown, SymbolicTerms}
use Rattle.kp_symbolic.specs.States.{head_of_sort}
use Rattle.kp_symbolic.specs.WellFormed.{IsWellSorted}
use Rattle.kp_symbolic.specs.Writing.{fresh_name}
use Rattle.kp_rules.specs.Skeletons.{Form}
use Rattle.kp_case_laws.specs.Parts.{StatePart, IsTold, IsSortedPart, IsGrown, with_clauses}
use Rattle.kp_case_laws.specs.Narrowings.{head_clauses, has_other_head, heads_inside, heads_outside, constructor_term, all_unknown, part_with_term}
use Rattle.kp_case_laws.specs.Cases.{MetPart, AreCases, left_side}
use Rattle.kp_case_laws.specs.Courses.{FormPair, Equality, Course, with_pair, with_binding, with_equality, with_pairs, IsOnCourse, IsOfSort, replaced_course, course_in, form_variables, all_equality_clauses, IsBoundTo, IsSortedEquality}
use Rattle.kp_case_laws.specs.Rows.{AsksSort}
use Rattle.kp_symbolic_laws.specs.Runs.{HasOneSortEach}
use Rattle.kp_symbolic_laws.specs.Safe.{IsNormal, PutNormal, IsFormedState, IsSoundQuote}
use Rattle.kp_unify.specs.Comes.{IsNarrowedFrom}
use Rattle.kp_unify.specs.Matched.{IsLaid}
use Rattle.kp_unify.specs.Names.{IsNextName, AreNextVariables}
use Rattle.kp_unify.specs.Narrowed.{NumberedPart, with_split}

-- ---- names

-- the name was met, or is Fresh and a number below the next
abbrev pub IsInUse : List Text → ℕ → Text → Type 0
IsInUse used next x = (list_any (bytes_eq x) used ≡ true) ⊎ ((j : ℕ) × j < next × (x ≡ fresh_name j))

-- and so is that of each variable at hand
abbrev pub AreInUse : List Text → NumberedPart → Type 0
AreInUse used q = AllByRecursion (λ x. IsInUse used q.next x.name) q.part.state.variables

-- a part of p by narrowing where the left side lies on it, well-sorted and its terms in normal form, with new variables of sorts with
-- values, whose names are in use
pub record IsPartOn (g : KoreSignature) (used : List Text) (left : Form) (p : StatePart) (q : NumberedPart) : Type 0 where
  pub grown : IsGrown g used p q.part
  pub sorted : IsSortedPart g q.part
  pub formed : IsFormedState g (IsSoundQuote g) q.part.state
  pub begun : 1 ≤ q.next
  pub names : AreInUse used q
  pub narrowed : IsNarrowedFrom g left p q.part

-- ---- on the way

-- the sort of a variable of the left side, or the own sort of a value
abbrev pub IsAskedSort : KoreSignature → Form → KoreSort → Type 0
IsAskedSort g left s = ((x : Text) × Contains (form_variables left) (record { name = x; sort = s })) ⊎ ((u : Value) × (own_sort g u ≡ Some s))

-- both sides are in normal form
abbrev pub IsNormalEquality : KoreSignature → Equality → Type 0
IsNormalEquality g e = IsNormal g e.left × IsNormal g e.right

-- both sides have its sort
abbrev pub IsPlacedEquality : KoreSignature → Equality → Type 0
IsPlacedEquality g e = IsWellSorted g e.sort e.left × IsWellSorted g e.sort e.right

-- all terms that were found and are to come are in normal form
pub record IsFormedCourse (g : KoreSignature) (k : Course) : Type 0 where
  pub equalities : AllByRecursion (IsNormalEquality g) k.equalities
  pub bindings : PutNormal g k.bindings
  pub pairs : AllByRecursion (λ q. IsNormal g q.term) k.pairs

pub record IsOnWay (g : KoreSignature) (used : List Text) (left : Form) (p : StatePart) (k : Course) (next : ℕ) (apart : List NumberedPart) : Type 0 where
  pub on : IsOnCourse g left p k (map (λ q. q.part) apart)
  pub here : IsPartOn g used left p (record { part = k.part; next = next })
  pub others : AllByRecursion (IsPartOn g used left p) apart
  pub asked : AllByRecursion (λ e. IsAskedSort g left e.sort) k.equalities
  pub formed : IsFormedCourse g k
  pub laid : IsLaid g left k

-- a course with the number of the next name, and the parts that were split off
pub record Stage : Type 0 where
  pub course : Course
  pub next : ℕ
  pub apart : List NumberedPart

abbrev pub here_of : Stage → NumberedPart
here_of s = record { part = s.course.part; next = s.next }

-- ---- narrowings

-- the variable is a new one of the sort
pub record IsNarrowedToSort (g : KoreSignature) (used : List Text) (x : SortedName) (s : KoreSort) (old new : Stage) (t : SymbolicTerm) : Type 0 where
  pub name : Text
  pub named : IsNextName used old.next name new.next
  pub is : t ≡ unknown (record { name = name; sort = s })
  pub course : new.course ≡ replaced_course g (record { variable = x; term = unknown (record { name = name; sort = s }) }) (part_with_term g (record { variable = x; term = unknown (record { name = name; sort = s }) }) (record { name = name; sort = s } ∷ []) old.course.part) old.course
  pub split : new.apart ≡ with_split (here_of old) (head_clauses g false x (head_of_sort s)) old.apart

-- the variable is the constructor of new ones
pub record IsNarrowedToConstructor (g : KoreSignature) (used : List Text) (x : SortedName) (c : Text) (old new : Stage) (ts : SymbolicTerms) : Type 0 where
  pub variables : List SortedName
  pub named : AreNextVariables used old.next (sort_list (places_of g c)) variables new.next
  pub are : ts ≡ all_unknown variables
  pub course : new.course ≡ replaced_course g (record { variable = x; term = constructor_term g c variables }) (part_with_term g (record { variable = x; term = constructor_term g c variables }) variables old.course.part) old.course
  pub split : new.apart ≡ with_split (here_of old) (has_other_head g x c variables) old.apart

-- the variable's head is one of the sort's
pub record IsAsked (g : KoreSignature) (x : SortedName) (s : KoreSort) (old new : Stage) : Type 0 where
  pub course : new.course ≡ course_in (with_clauses old.course.part (heads_inside g x s)) old.course
  pub stays : new.next ≡ old.next
  pub split : new.apart ≡ with_split (here_of old) (heads_outside g x s) old.apart

-- ---- a pair

-- a pair of a form, which stands for values of the sort alone, and a term is the next
pub record IsGoing (g : KoreSignature) (used : List Text) (left : Form) (p : StatePart) (form : Form) (s : KoreSort) (stage : Stage) (t : SymbolicTerm) : Type 0 where
  pub told : IsTold g p
  pub asks : AsksSort g form s
  pub way : IsOnWay g used left p (with_pair stage.course (record { form = form; term = t })) stage.next stage.apart

-- and the term has the sort
pub record IsPlaced (g : KoreSignature) (used : List Text) (left : Form) (p : StatePart) (form : Form) (s : KoreSort) (stage : Stage) (t : SymbolicTerm) : Type 0 where
  pub way : IsOnWay g used left p (with_pair stage.course (record { form = form; term = t })) stage.next stage.apart
  pub of_sort : IsOfSort g stage.course.part s t

-- the left side stands for no instance
abbrev pub IsAllApart : KoreSignature → Form → StatePart → Type 0
IsAllApart g left p = AreCases g (left_side g left) p None (p ∷ [])

-- a pair is the next
pub record IsNextPair (g : KoreSignature) (used : List Text) (left : Form) (p : StatePart) (stage : Stage) (q : FormPair) : Type 0 where
  pub told : IsTold g p
  pub one : HasOneSortEach (form_variables left)
  pub way : IsOnWay g used left p (with_pair stage.course q) stage.next stage.apart

-- the course goes on
pub record IsGone (g : KoreSignature) (used : List Text) (left : Form) (p : StatePart) (stage : Stage) : Type 0 where
  pub told : IsTold g p
  pub one : HasOneSortEach (form_variables left)
  pub way : IsOnWay g used left p stage.course stage.next stage.apart

-- the rule's variable stands for the term; where it stands for another already, both are to be equal
abbrev pub bound_stage : Stage → Text → KoreSort → SymbolicTerm → Option SymbolicTerm → Stage
bound_stage stage x s t None = record { course = with_binding stage.course (record { name = x; term = t }); next = stage.next; apart = stage.apart }
bound_stage stage x s t (Some b) = record { course = with_equality stage.course (record { sort = s; left = b; right = t }); next = stage.next; apart = stage.apart }

abbrev pub equal_stage : Stage → Equality → Stage
equal_stage stage e = record { course = with_equality stage.course e; next = stage.next; apart = stage.apart }

abbrev pub members_stage : Stage → List FormPair → Stage
members_stage stage ps = record { course = with_pairs stage.course ps; next = stage.next; apart = stage.apart }

-- the course goes on, or the left side stands for no instance
abbrev pub GoesOnIf : Bool → KoreSignature → List Text → Form → StatePart → Stage → Type 0
GoesOnIf b g used left p stage = MatchBool b (IsGone g used left p stage) (IsAllApart g left p)

-- the part of a state, well-sorted and its terms in normal form, what was added being true of each instance, whose names are in
-- use; each variable of the left side has one sort
pub record IsMeetable (g : KoreSignature) (used : List Text) (left : Form) (q : NumberedPart) : Type 0 where
  pub told : IsTold g q.part
  pub sorted : IsSortedPart g q.part
  pub formed : IsFormedState g (IsSoundQuote g) q.part.state
  pub begun : 1 ≤ q.next
  pub names : AreInUse used q
  pub one : HasOneSortEach (form_variables left)

-- ---- the outcome

-- the equations are the clauses of equalities by which the left side matches the part's term; these are of terms in normal form and of
-- the sorts that it asks for
pub record AreEquations (g : KoreSignature) (left : Form) (m : MetPart) : Type 0 where
  pub equalities : List Equality
  pub are : m.equations ≡ all_equality_clauses g equalities
  pub of_sort : AllByRecursion (IsSortedEquality g m.part) equalities
  pub asked : AllByRecursion (λ e. IsAskedSort g left e.sort) equalities
  pub normal : AllByRecursion (IsNormalEquality g) equalities
  pub placed : AllByRecursion (IsPlacedEquality g) equalities
  pub laid : IsLaid g left (record { part = m.part; equalities = equalities; bindings = m.bindings; pairs = [] })

-- the cases of p, each well-sorted and its terms in normal form, with new variables of sorts with values, whose names are in use;
-- each variable of the left side stands for a term of its sort, in normal form
pub record IsMeeting (g : KoreSignature) (used : List Text) (left : Form) (p : StatePart) (met : MetPart) (next : ℕ) (apart : List NumberedPart) : Type 0 where
  pub cases : AreCases g (left_side g left) p (Some met) (map (λ q. q.part) apart)
  pub here : IsPartOn g used left p (record { part = met.part; next = next })
  pub others : AllByRecursion (IsPartOn g used left p) apart
  pub bound : AllByRecursion (IsBoundTo g met.part met.bindings) (form_variables left)
  pub normal : PutNormal g met.bindings
  pub equations : AreEquations g left met
