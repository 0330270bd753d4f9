-- A left side against a part, on its way: what is found so far, and the pairs of a form and a term that are still to be met.
-- Source: unification by pairs, where neither side has variables of the other; this project.
use Rattle.std.specs.Prelude.{◌≡◌, ◌↔◌, ◌⊎◌, List, [], ◌∷◌, ◌++◌, map, true, Option, Some, None, if◌then◌else◌}
use Rattle.std.specs.List.{AllByRecursion, Contains}
use Rattle.std.specs.Option.{option_map}
use Rattle.kp_kore.specs.Syntax.{KoreSort}
use Rattle.kp_kore.specs.Parts.{SortedName}
use Rattle.kp_kore.specs.Signature.{KoreSignature, Head, IsHeadOf, IsBelow}
use Rattle.kp_kore.specs.Value.{Value, Values, no_values, next_value, HasSort}
use Rattle.kp_kore.specs.Instance.{Valuation}
use Rattle.kp_kore.specs.Steps.{AnyByRecursion}
use Rattle.kp_symbolic.specs.Terms.{SymbolicTerm, known, SymbolicTerms, no_terms, next_term, term_instance, term_variables, Replaced, replacement_for}
use Rattle.kp_symbolic.specs.States.{same, Literal}
use Rattle.kp_symbolic.specs.WellFormed.{IsWellSorted, AreAtHand}
use Rattle.kp_symbolic.specs.Folding.{replaced}
use Rattle.kp_symbolic.specs.Opening.{opened_same}
use Rattle.kp_symbolic.specs.Clauses.{distributed, is_too_large}
use Rattle.kp_symbolic.specs.Solving.{Equation, replacement}
use Rattle.kp_rules.specs.Skeletons.{Form, one_of, fixed, built, Forms, no_forms, next_form, Admits}
use Rattle.kp_case_laws.specs.Parts.{StatePart, OfEachInstance, IsDivided, with_clauses, IsSortedPart}
use Rattle.kp_case_laws.specs.Narrowings.{are_never}
use Rattle.kp_case_laws.specs.Cases.{IsBoundBy, AreBoundOnce, IsApart, left_side, MetPart}

-- a part of the left side, and the part of the state's term that it is to stand for
pub record FormPair : Type 0 where
  pub form : Form
  pub term : SymbolicTerm

-- two terms that are to have one value
pub record Equality : Type 0 where
  pub sort : KoreSort
  pub left : SymbolicTerm
  pub right : SymbolicTerm

-- each form stands for its term's value
abbrev pub AreAdmitted : KoreSignature → Valuation → Valuation → List FormPair → Type 0
AreAdmitted g w r pairs = AllByRecursion (λ p. Admits g r p.form (term_instance g w p.term)) pairs

abbrev pub AreEqual : KoreSignature → Valuation → List Equality → Type 0
AreEqual g w equalities = AllByRecursion (λ e. term_instance g w e.left ≡ term_instance g w e.right) equalities

-- a part, what was found in it, and the pairs to come, the next as the last
pub record Course : Type 0 where
  pub part : StatePart
  pub equalities : List Equality
  pub bindings : List Replaced
  pub pairs : List FormPair

-- the left side stands for an instance of the part exactly where what is found is true and the pairs to come are admitted
pub record IsCourse (g : KoreSignature) (left : Form) (k : Course) : Type 0 where
  pub exactly : OfEachInstance g k.part (λ w c. (r : Valuation) →
      Admits g r left c ↔ (AreEqual g w k.equalities × IsBoundBy g w k.bindings r × AreAdmitted g w r k.pairs))
  pub once : AreBoundOnce k.bindings

-- before the first pair
abbrev pub beginning : Form → StatePart → Course
beginning left p = record { part = p; equalities = []; bindings = []; pairs = record { form = left; term = p.state.term } ∷ [] }

-- with this pair as the next
abbrev pub with_pair : Course → FormPair → Course
with_pair k p = record { part = k.part; equalities = k.equalities; bindings = k.bindings; pairs = k.pairs ++ p ∷ [] }

-- with a binding, with an equality, with these pairs to come
abbrev pub with_binding : Course → Replaced → Course
with_binding k b = record { part = k.part; equalities = k.equalities; bindings = k.bindings ++ b ∷ []; pairs = k.pairs }

abbrev pub with_equality : Course → Equality → Course
with_equality k e = record { part = k.part; equalities = k.equalities ++ e ∷ []; bindings = k.bindings; pairs = k.pairs }

abbrev pub with_pairs : Course → List FormPair → Course
with_pairs k ps = record { part = k.part; equalities = k.equalities; bindings = k.bindings; pairs = k.pairs ++ ps }

-- ---- behind the last pair

-- the clauses of an equality: opened, unless that makes too many literals
abbrev pub equality_clauses : KoreSignature → Equality → List (List Literal)
equality_clauses g e =
    if is_too_large 0 (opened_same g true true e.sort e.left e.right) then (record { holds = true; atom = same e.sort e.left e.right } ∷ []) ∷ []
    else distributed (opened_same g true true e.sort e.left e.right)

abbrev pub all_equality_clauses : KoreSignature → List Equality → List (List Literal)
all_equality_clauses g [] = []
all_equality_clauses g (e ∷ es) = equality_clauses g e ++ all_equality_clauses g es

abbrev pub met_part : KoreSignature → Course → MetPart
met_part g k = record { part = k.part; equations = all_equality_clauses g k.equalities; bindings = k.bindings }

-- ---- a pair in exchange for what it asks

pub record Asked : Type 0 where
  pub equalities : List Equality
  pub bindings : List Replaced
  pub pairs : List FormPair

abbrev pub nothing_asked : Asked
nothing_asked = record { equalities = []; bindings = []; pairs = [] }

abbrev pub members_asked : List FormPair → Asked
members_asked pairs = record { equalities = []; bindings = []; pairs = pairs }

-- of each instance, the pair is admitted exactly where these are equal, bound and admitted, whatever binds what is bound
abbrev pub Asks : KoreSignature → StatePart → List Replaced → FormPair → Asked → Type 0
Asks g p bound pair a = OfEachInstance g p (λ w c. (r : Valuation) → IsBoundBy g w bound r →
    Admits g r pair.form (term_instance g w pair.term) ↔ (AreEqual g w a.equalities × IsBoundBy g w a.bindings r × AreAdmitted g w r a.pairs))

-- the pair is admitted for no instance
abbrev pub AsksNever : KoreSignature → StatePart → FormPair → Type 0
AsksNever g p pair = OfEachInstance g p (λ w c. (r : Valuation) → ¬ Admits g r pair.form (term_instance g w pair.term))

abbrev pub going_on : Course → Asked → Course
going_on k a = record { part = k.part; equalities = k.equalities ++ a.equalities; bindings = k.bindings ++ a.bindings; pairs = k.pairs ++ a.pairs }

-- ---- members

-- each form with its term, the first as the last; none where one list is longer
abbrev pub paired : Forms → SymbolicTerms → Option (List FormPair)
paired no_forms no_terms = Some []
paired (next_form f fs) (next_term t ts) = option_map (λ ps. ps ++ record { form = f; term = t } ∷ []) (paired fs ts)
paired fs ts = None

abbrev pub all_known : Values → SymbolicTerms
all_known no_values = no_terms
all_known (next_value u us) = next_term (known u) (all_known us)

abbrev pub all_fixed : Values → Forms
all_fixed no_values = no_forms
all_fixed (next_value u us) = next_form (fixed u) (all_fixed us)

-- ---- where a variable is a term

abbrev pub put_in : KoreSignature → Equation → SymbolicTerm → SymbolicTerm
put_in g e t = replaced g (replacement e) t

-- the same in a part, with the term in the variable's place
abbrev pub replaced_course : KoreSignature → Equation → StatePart → Course → Course
replaced_course g e r k = record {
  part = r;
  equalities = map (λ q. record { sort = q.sort; left = put_in g e q.left; right = put_in g e q.right }) k.equalities;
  bindings = map (λ b. record { name = b.name; term = put_in g e b.term }) k.bindings;
  pairs = map (λ p. record { form = p.form; term = put_in g e p.term }) k.pairs;
}

-- the term may stand for the variable in what is said of the part: it has the variable's sort, and all is at hand
pub record MayBePut (g : KoreSignature) (r : StatePart) (e : Equation) : Type 0 where
  pub variable : Contains r.state.variables e.variable
  pub at_hand : AreAtHand (term_variables e.term) r.state.variables
  pub sorted : IsWellSorted g e.variable.sort e.term

-- the same in a part
abbrev pub course_in : StatePart → Course → Course
course_in r k = record { part = r; equalities = k.equalities; bindings = k.bindings; pairs = k.pairs }

-- ---- sorts

-- a sort below both that has each head that they share
pub record IsMeet (g : KoreSignature) (a b m : KoreSort) : Type 0 where
  pub below_first : IsBelow g.subsorts m a
  pub below_second : IsBelow g.subsorts m b
  pub common : (h : Head) → IsHeadOf g a h → IsHeadOf g b h → IsHeadOf g m h

-- each sort that shares a value with this one has a meet with it
abbrev pub HasMeets : KoreSignature → KoreSort → Type 0
HasMeets g s = (a : KoreSort) (u : Value) → HasSort g a u → HasSort g s u → (m : KoreSort) × IsMeet g a s m

-- a term of variables at hand, that has the sort of some place
pub record IsTermOf (g : KoreSignature) (hand : List SortedName) (t : SymbolicTerm) : Type 0 where
  pub place : KoreSort
  pub sorted : IsWellSorted g place t
  pub at_hand : AreAtHand (term_variables t) hand

-- a term whose value has the sort for each instance of the part; by its form, where the sort has meets
pub record IsOfSort (g : KoreSignature) (p : StatePart) (s : KoreSort) (t : SymbolicTerm) : Type 0 where
  pub term : IsTermOf g p.state.variables t
  pub has : OfEachInstance g p (λ w c. HasSort g s (term_instance g w t))
  pub written : HasMeets g s → IsWellSorted g s t

-- ---- the variables of a left side

-- one for each place where one stands
abbrev mutual
  pub form_variables : Form → List SortedName
  form_variables (one_of x s) = record { name = x; sort = s } ∷ []
  form_variables (built c fs) = all_form_variables fs
  form_variables f = []

  pub all_form_variables : Forms → List SortedName
  all_form_variables no_forms = []
  all_form_variables (next_form f fs) = form_variables f ++ all_form_variables fs

-- the variable stands for a term of its sort
pub record IsBoundTo (g : KoreSignature) (p : StatePart) (bindings : List Replaced) (x : SortedName) : Type 0 where
  pub term : SymbolicTerm
  pub bound : replacement_for bindings x.name ≡ Some term
  pub of_sort : IsOfSort g p x.sort term

-- a binding is of a variable of the left side, and its term of the variable's sort
pub record IsBoundRight (g : KoreSignature) (of_left : List SortedName) (p : StatePart) (b : Replaced) : Type 0 where
  pub sort : KoreSort
  pub stands : Contains of_left (record { name = b.name; sort = sort })
  pub of_sort : IsOfSort g p sort b.term

-- the variable is bound, or stands in a pair to come
abbrev pub IsCovered : Course → SortedName → Type 0
IsCovered k x = AnyByRecursion (λ b. b.name ≡ x.name) k.bindings ⊎ AnyByRecursion (λ p. Contains (form_variables p.form) x) k.pairs

-- the parts that were split off with one more, by these clauses; none more, where they are never true
abbrev pub with_split : StatePart → List (List Literal) → List StatePart → List StatePart
with_split p others apart = if are_never others then apart else apart ++ with_clauses p others ∷ []

-- ---- the whole course

-- the sides of an equality have its sort
abbrev pub IsSortedEquality : KoreSignature → StatePart → Equality → Type 0
IsSortedEquality g p e = IsOfSort g p e.sort e.left × IsOfSort g p e.sort e.right

-- a pair of a part of the left side and a term of variables at hand
abbrev pub IsSortedPair : KoreSignature → List SortedName → StatePart → FormPair → Type 0
IsSortedPair g of_left p q = IsTermOf g p.state.variables q.term × AreAtHand (form_variables q.form) of_left

-- what was found and is to come has the sorts of its places, and each variable of the left side is bound or still to come
pub record IsSortedCourse (g : KoreSignature) (left : Form) (k : Course) : Type 0 where
  pub part : IsSortedPart g k.part
  pub equalities : AllByRecursion (IsSortedEquality g k.part) k.equalities
  pub bindings : AllByRecursion (IsBoundRight g (form_variables left) k.part) k.bindings
  pub pairs : AllByRecursion (IsSortedPair g (form_variables left) k.part) k.pairs
  pub covered : AllByRecursion (IsCovered k) (form_variables left)

-- a course in a part of p, and the parts that were split off so far, for none of whose instances the left side stands
pub record IsOnCourse (g : KoreSignature) (left : Form) (p : StatePart) (k : Course) (apart : List StatePart) : Type 0 where
  pub divided : IsDivided g p (k.part ∷ apart)
  pub course : IsCourse g left k
  pub are_apart : AllByRecursion (IsApart g (left_side g left)) apart
  pub sorted : IsSortedCourse g left k
