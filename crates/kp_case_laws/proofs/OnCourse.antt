-- A course from its beginning to the cases: what it goes by divides the part that it began in, and has the sorts of its places.
use Rattle.std.proofs.Common.{◌≡◌, List, [], ◌∷◌, ◌++◌, map, Some, None, inl, inr, ◌⊎◌}
use Rattle.std.specs.List.{AllByRecursion, Contains}
use Rattle.kp_kore.specs.Parts.{SortedName}
use Rattle.kp_kore.specs.Signature.{KoreSignature}
use Rattle.kp_kore.specs.Instance.{Valuation, GivesSorts}
use Rattle.kp_kore.specs.Cases.{OfOneAlone}
use Rattle.kp_kore.specs.Steps.{AnyByRecursion}
use Rattle.kp_kore.specs.Division.{IsHeldBy}
use Rattle.kp_kore.proofs.TurnLemmas.{each_member}
use Rattle.kp_symbolic.specs.States.{Literal, AreTrue}
use Rattle.kp_symbolic.specs.Solving.{Equation}
use Rattle.kp_symbolic.proofs.Distribution.{all_both, all_first}
use Rattle.kp_rules.specs.Skeletons.{Form, Admits}
use Rattle.kp_case_laws.specs.Parts.{StatePart, state_reading, OfEachInstance, IsPartBelow, IsDivided, IsRestricted, IsTold, IsSortedPart}
use Rattle.kp_case_laws.specs.Narrowings.{IsNarrowing, equates}
use Rattle.kp_case_laws.specs.Cases.{AreBoundOnce, IsApart, left_side, AreCases}
use Rattle.kp_case_laws.specs.Courses.{FormPair, AreEqual, Course, beginning, with_pair, met_part, Asked, Asks, AsksNever, going_on, put_in, replaced_course, MayBePut, course_in, form_variables, IsSortedEquality, IsBoundRight, IsCovered, IsSortedPair, IsSortedCourse, IsOnCourse}
use Rattle.kp_case_laws.proofs.PartLemmas.{told_below, divides_further, undivided, none_has}
use Rattle.kp_case_laws.proofs.HandLemmas.{depends_on_hand}
use Rattle.kp_case_laws.proofs.NarrowingLemmas.{narrowing_divides, narrowing_is_whole}
use Rattle.kp_case_laws.proofs.CaseLemmas.{apart_alone}
use Rattle.kp_case_laws.proofs.SortLemmas.{IsNarrowed, narrowed, term_in, sort_in, term_put, sort_put}
use Rattle.kp_case_laws.proofs.CourseLemmas.{course_begins, course_ends, course_goes_on, course_is_apart, unequal_is_apart, course_in_part, course_narrowed}

-- ---- lists

pub any_first : {X : Type 0} (P : X → Type 0) (xs ys : List X) → AnyByRecursion P xs → AnyByRecursion P (xs ++ ys)
any_first P [] ys h = absurd h
any_first P (x ∷ xs) ys h = elim h [ inl a ↦ inl a | inr b ↦ inr (any_first P xs ys b) ]

pub any_second : {X : Type 0} (P : X → Type 0) (xs ys : List X) → AnyByRecursion P ys → AnyByRecursion P (xs ++ ys)
any_second P [] ys h = h
any_second P (x ∷ xs) ys h = inr (any_second P xs ys h)

any_of_both : {X : Type 0} (P : X → Type 0) (xs ys : List X) → AnyByRecursion P (xs ++ ys) → AnyByRecursion P xs ⊎ AnyByRecursion P ys
any_of_both P [] ys h = inr h
any_of_both P (x ∷ xs) ys h = elim h [
  | inl a ↦ inl (inl a)
  | inr b ↦ elim (any_of_both P xs ys b) [ inl a ↦ inl (inr a) | inr c ↦ inr c ]
]

any_image : {X Y : Type 0} (P : X → Type 0) (Q : Y → Type 0) (f : X → Y) (xs : List X) → ((x : X) → P x → Q (f x)) → AnyByRecursion P xs → AnyByRecursion Q (map f xs)
any_image P Q f [] k h = absurd h
any_image P Q f (x ∷ xs) k h = elim h [ inl a ↦ inl (k x a) | inr b ↦ inr (any_image P Q f xs k b) ]

all_image : {X Y : Type 0} (P : X → Type 0) (Q : Y → Type 0) (f : X → Y) (xs : List X) → ((x : X) → P x → Q (f x)) → AllByRecursion P xs → AllByRecursion Q (map f xs)
all_image P Q f [] k h = tt
all_image P Q f (x ∷ xs) k h = (k x h.0, all_image P Q f xs k h.1)

each_weaker : {X : Type 0} (P Q : X → Type 0) (xs : List X) → ((x : X) → P x → Q x) → AllByRecursion P xs → AllByRecursion Q xs
each_weaker P Q [] f h = tt
each_weaker P Q (x ∷ xs) f h = (f x h.0, each_weaker P Q xs f h.1)

-- the first as the last
first_as_last : {X : Type 0} (P : X → Type 0) (x : X) (ys : List X) → OfOneAlone P (x ∷ ys) → OfOneAlone P (ys ++ x ∷ [])
first_as_last {X = X} P x ys h = elim h [ inl a ↦ last ys a.0 a.1 | inr b ↦ none_last ys b.0 b.1 ]
  where
    last : (zs : List X) → P x → AllByRecursion (λ z. ¬ P z) zs → OfOneAlone P (zs ++ x ∷ [])
    last [] p n = inl (p, tt)
    last (z ∷ zs) p n = inr (n.0, last zs p n.1)

    none_behind : (zs : List X) → (¬ P x) → AllByRecursion (λ z. ¬ P z) zs → AllByRecursion (λ z. ¬ P z) (zs ++ x ∷ [])
    none_behind [] p n = (p, tt)
    none_behind (z ∷ zs) p n = (n.0, none_behind zs p n.1)

    none_last : (zs : List X) → (¬ P x) → OfOneAlone P zs → OfOneAlone P (zs ++ x ∷ [])
    none_last [] p o = absurd o
    none_last (z ∷ zs) p o = elim o [ inl a ↦ inl (a.0, none_behind zs p a.1) | inr b ↦ inr (b.0, none_last zs p b.1) ]

second_as_last : {X : Type 0} (P : X → Type 0) (x y : X) (zs : List X) → OfOneAlone P (x ∷ y ∷ zs) → OfOneAlone P (x ∷ (zs ++ y ∷ []))
second_as_last P x y zs h = elim h [
  | inl a ↦ inl (a.0, all_both (λ z. ¬ P z) zs (y ∷ []) a.1.1 (a.1.0, tt))
  | inr b ↦ inr (b.0, first_as_last P y zs b.1)
]

split_behind : (g : KoreSignature) (p r q : StatePart) (apart : List StatePart) → IsDivided g p (r ∷ q ∷ apart) → IsDivided g p (r ∷ (apart ++ q ∷ []))
split_behind g p r q apart d = record {
  below = (d.below.0, all_both (IsPartBelow g p) apart (q ∷ []) d.below.1.1 (d.below.1.0, tt));
  each = λ v c sorts met t. second_as_last (λ x. IsHeldBy (state_reading g) g p x v c) r q apart (d.each v c sorts met t);
}

-- ---- the parts

pub told : (g : KoreSignature) (left : Form) (p : StatePart) (k : Course) (apart : List StatePart) → IsOnCourse g left p k apart → IsTold g k.part
told g left p k apart o = told_below g p k.part o.divided.below.0

-- where the part at hand is apart too, all of p is
pub all_apart : (g : KoreSignature) (left : Form) (p : StatePart) (q : StatePart) (apart : List StatePart) → IsTold g p → IsDivided g p (q ∷ apart) → AllByRecursion (IsApart g (left_side g left)) apart → IsApart g (left_side g left) q → AreCases g (left_side g left) p None (p ∷ [])
all_apart g left p q apart of_p d others i = apart_alone g (left_side g left) p of_p (λ w c sorts met r h.
    none_has g (λ c. (r : Valuation) × Admits g r left c) p (q ∷ apart) d
    (as_none q i, each_weaker (IsApart g (left_side g left)) (λ x. OfEachInstance g x (λ w c. ¬ ((r : Valuation) × Admits g r left c))) apart as_none others) w c sorts met (r, h))
  where
    as_none : (x : StatePart) → IsApart g (left_side g left) x → OfEachInstance g x (λ w c. ¬ ((r : Valuation) × Admits g r left c))
    as_none x a w c sorts met h = a w c sorts met h.0 h.1

-- ---- from the beginning

pub on_begins : (g : KoreSignature) (left : Form) (p : StatePart) → IsTold g p → IsSortedPart g p → IsOnCourse g left p (beginning left p) []
on_begins g left p of_p s = record {
  divided = undivided g p of_p;
  course = course_begins g left p;
  are_apart = tt;
  sorted = record {
    part = s;
    equalities = tt;
    bindings = tt;
    pairs = ((record { place = p.state.sort; sorted = s.state.term; at_hand = s.state.term_at_hand }, each_member (λ x. Contains (form_variables left) x) (form_variables left) (λ x c. c)), tt);
    covered = each_member (IsCovered (beginning left p)) (form_variables left) (λ x c. inr (inl c));
  };
}

-- ---- a pair

pub on_goes : (g : KoreSignature) (left : Form) (p : StatePart) (k : Course) (apart : List StatePart) (pair : FormPair) (a : Asked) → IsOnCourse g left p (with_pair k pair) apart → Asks g k.part k.bindings pair a → AreBoundOnce (k.bindings ++ a.bindings) →
    AllByRecursion (IsSortedEquality g k.part) a.equalities → AllByRecursion (IsBoundRight g (form_variables left) k.part) a.bindings → AllByRecursion (IsSortedPair g (form_variables left) k.part) a.pairs →
    ((x : SortedName) → Contains (form_variables pair.form) x → IsCovered (going_on k a) x) → IsOnCourse g left p (going_on k a) apart
on_goes g left p k apart pair a o asks once es bs ps cover = record {
  divided = o.divided;
  course = course_goes_on g left k pair a o.course asks once;
  are_apart = o.are_apart;
  sorted = record {
    part = o.sorted.part;
    equalities = all_both (IsSortedEquality g k.part) k.equalities a.equalities o.sorted.equalities es;
    bindings = all_both (IsBoundRight g (form_variables left) k.part) k.bindings a.bindings o.sorted.bindings bs;
    pairs = all_both (IsSortedPair g (form_variables left) k.part) k.pairs a.pairs (all_first (IsSortedPair g (form_variables left) k.part) k.pairs (pair ∷ []) o.sorted.pairs) ps;
    covered = each_weaker (IsCovered (with_pair k pair)) (IsCovered (going_on k a)) (form_variables left) still o.sorted.covered;
  };
}
  where
    still : (x : SortedName) → IsCovered (with_pair k pair) x → IsCovered (going_on k a) x
    still x (inl b) = inl (any_first (λ b. b.name ≡ x.name) k.bindings a.bindings b)
    still x (inr c) = elim (any_of_both (λ q. Contains (form_variables q.form) x) k.pairs (pair ∷ []) c) [
      | inl d ↦ inr (any_first (λ q. Contains (form_variables q.form) x) k.pairs a.pairs d)
      | inr d ↦ elim d [ inl f ↦ cover x f | inr f ↦ absurd f ]
    ]

pub on_never : (g : KoreSignature) (left : Form) (p : StatePart) (k : Course) (apart : List StatePart) (pair : FormPair) → IsTold g p → IsOnCourse g left p (with_pair k pair) apart → AsksNever g k.part pair → AreCases g (left_side g left) p None (p ∷ [])
on_never g left p k apart pair of_p o never = all_apart g left p k.part apart of_p o.divided o.are_apart (course_is_apart g left k pair o.course never)

-- ---- in a part of the part

-- of each term in a course
sorted_in : (g : KoreSignature) (left : Form) (k : Course) (new : List SortedName) (cs : List (List Literal)) (r : StatePart) → IsRestricted g k.part cs new r → IsSortedPart g r → IsSortedCourse g left k → IsSortedCourse g left (course_in r k)
sorted_in g left k new cs r i s o = record {
  part = s;
  equalities = each_weaker (IsSortedEquality g k.part) (IsSortedEquality g r) k.equalities (λ e h. (sort_in g k.part r new cs e.sort e.left i h.0, sort_in g k.part r new cs e.sort e.right i h.1)) o.equalities;
  bindings = each_weaker (IsBoundRight g (form_variables left) k.part) (IsBoundRight g (form_variables left) r) k.bindings (λ b h. record { sort = h.sort; stands = h.stands; of_sort = sort_in g k.part r new cs h.sort b.term i h.of_sort }) o.bindings;
  pairs = each_weaker (IsSortedPair g (form_variables left) k.part) (IsSortedPair g (form_variables left) r) k.pairs (λ q h. (term_in g k.part r new cs q.term i h.0, h.1)) o.pairs;
  covered = o.covered;
}

pub on_asked : (g : KoreSignature) (left : Form) (p : StatePart) (k : Course) (apart : List StatePart) (r q : StatePart) (clauses others : List (List Literal)) → IsOnCourse g left p k apart → IsNarrowing g k.part.state.variables [] clauses others →
    IsRestricted g k.part clauses [] r → IsRestricted g k.part others [] q → IsApart g (left_side g left) q → IsSortedPart g r → IsOnCourse g left p (course_in r k) (apart ++ q ∷ [])
on_asked g left p k apart r q clauses others o n i j a s = record {
  divided = split_behind g p r q apart (divides_further g p k.part [] apart (r ∷ q ∷ []) o.divided (narrowing_divides g k.part r q [] clauses others n (told g left p k apart o) (depends_on_hand g k.part.state o.sorted.part.state) i j));
  course = course_in_part g left k [] clauses r i o.course;
  are_apart = all_both (IsApart g (left_side g left)) apart (q ∷ []) o.are_apart (a, tt);
  sorted = sorted_in g left k [] clauses r i s o.sorted;
}

-- where nothing is split off
pub on_asked_whole : (g : KoreSignature) (left : Form) (p : StatePart) (k : Course) (apart : List StatePart) (r : StatePart) (clauses others : List (List Literal)) → IsOnCourse g left p k apart → IsNarrowing g k.part.state.variables [] clauses others →
    IsRestricted g k.part clauses [] r → ((w : Valuation) → GivesSorts g w k.part.state.variables → ¬ AreTrue g w others) → IsSortedPart g r → IsOnCourse g left p (course_in r k) apart
on_asked_whole g left p k apart r clauses others o n i never s = record {
  divided = divides_further g p k.part [] apart (r ∷ []) o.divided (narrowing_is_whole g k.part r [] clauses others n (told g left p k apart o) (depends_on_hand g k.part.state o.sorted.part.state) i never);
  course = course_in_part g left k [] clauses r i o.course;
  are_apart = o.are_apart;
  sorted = sorted_in g left k [] clauses r i s o.sorted;
}

-- ---- with a term in a variable's place

sorted_put : (g : KoreSignature) (left : Form) (k : Course) (new : List SortedName) (e : Equation) (r : StatePart) → IsNarrowed g k.part r new e → IsSortedPart g r → IsSortedCourse g left k → IsSortedCourse g left (replaced_course g e r k)
sorted_put g left k new e r n s o = record {
  part = s;
  equalities = all_image (IsSortedEquality g k.part) (IsSortedEquality g r) (λ q. record { sort = q.sort; left = put_in g e q.left; right = put_in g e q.right }) k.equalities
      (λ q h. (sort_put g k.part r new e q.sort q.left n h.0, sort_put g k.part r new e q.sort q.right n h.1)) o.equalities;
  bindings = all_image (IsBoundRight g (form_variables left) k.part) (IsBoundRight g (form_variables left) r) (λ b. record { name = b.name; term = put_in g e b.term }) k.bindings
      (λ b h. record { sort = h.sort; stands = h.stands; of_sort = sort_put g k.part r new e h.sort b.term n h.of_sort }) o.bindings;
  pairs = all_image (IsSortedPair g (form_variables left) k.part) (IsSortedPair g (form_variables left) r) (λ q. record { form = q.form; term = put_in g e q.term }) k.pairs (λ q h. (term_put g k.part r new e q.term n h.0, h.1)) o.pairs;
  covered = each_weaker (IsCovered k) (IsCovered (replaced_course g e r k)) (form_variables left) still o.covered;
}
  where
    still : (x : SortedName) → IsCovered k x → IsCovered (replaced_course g e r k) x
    still x (inl b) = inl (any_image (λ b. b.name ≡ x.name) (λ b. b.name ≡ x.name) (λ b. record { name = b.name; term = put_in g e b.term }) k.bindings (λ b h. h) b)
    still x (inr c) = inr (any_image (λ q. Contains (form_variables q.form) x) (λ q. Contains (form_variables q.form) x) (λ q. record { form = q.form; term = put_in g e q.term }) k.pairs (λ q h. h) c)

pub on_narrowed : (g : KoreSignature) (left : Form) (p : StatePart) (k : Course) (apart : List StatePart) (r q : StatePart) (new : List SortedName) (e : Equation) (others : List (List Literal)) → IsOnCourse g left p k apart →
    IsNarrowing g k.part.state.variables new (equates e.variable e.term) others → IsNarrowed g k.part r new e → IsRestricted g k.part others [] q → IsApart g (left_side g left) q → IsSortedPart g r → IsOnCourse g left p (replaced_course g e r k) (apart ++ q ∷ [])
on_narrowed g left p k apart r q new e others o n i j a s = record {
  divided = split_behind g p r q apart (divides_further g p k.part [] apart (r ∷ q ∷ []) o.divided (narrowing_divides g k.part r q new (equates e.variable e.term) others n (told g left p k apart o) (depends_on_hand g k.part.state o.sorted.part.state) i.restricted j));
  course = course_narrowed g left (form_variables left) k r new e i o.sorted.equalities o.sorted.bindings o.sorted.pairs o.course;
  are_apart = all_both (IsApart g (left_side g left)) apart (q ∷ []) o.are_apart (a, tt);
  sorted = sorted_put g left k new e r i s o.sorted;
}

-- where nothing is split off
pub on_narrowed_whole : (g : KoreSignature) (left : Form) (p : StatePart) (k : Course) (apart : List StatePart) (r : StatePart) (new : List SortedName) (e : Equation) (others : List (List Literal)) → IsOnCourse g left p k apart →
    IsNarrowing g k.part.state.variables new (equates e.variable e.term) others → IsNarrowed g k.part r new e → ((w : Valuation) → GivesSorts g w k.part.state.variables → ¬ AreTrue g w others) → IsSortedPart g r → IsOnCourse g left p (replaced_course g e r k) apart
on_narrowed_whole g left p k apart r new e others o n i never s = record {
  divided = divides_further g p k.part [] apart (r ∷ []) o.divided (narrowing_is_whole g k.part r new (equates e.variable e.term) others n (told g left p k apart o) (depends_on_hand g k.part.state o.sorted.part.state) i.restricted never);
  course = course_narrowed g left (form_variables left) k r new e i o.sorted.equalities o.sorted.bindings o.sorted.pairs o.course;
  are_apart = o.are_apart;
  sorted = sorted_put g left k new e r i s o.sorted;
}

-- ---- to the end

pub on_ends : (g : KoreSignature) (left : Form) (p : StatePart) (k : Course) (apart : List StatePart) → IsOnCourse g left p k apart → k.pairs ≡ [] → AreCases g (left_side g left) p (Some (met_part g k)) apart
on_ends g left p k apart o e = record {
  divided = o.divided;
  is_met = course_ends g left k o.sorted.equalities e o.course;
  are_apart = o.are_apart;
}

pub on_ends_never : (g : KoreSignature) (left : Form) (p : StatePart) (k : Course) (apart : List StatePart) → IsTold g p → IsOnCourse g left p k apart → OfEachInstance g k.part (λ w c. ¬ AreEqual g w k.equalities) → AreCases g (left_side g left) p None (p ∷ [])
on_ends_never g left p k apart of_p o never = all_apart g left p k.part apart of_p o.divided o.are_apart (unequal_is_apart g left k o.course never)

-- ---- as laws

pub law_narrowed : (g : KoreSignature) (left : Form) (p : StatePart) (k : Course) (apart : List StatePart) (r q : StatePart) (new : List SortedName) (e : Equation) (others : List (List Literal)) → IsOnCourse g left p k apart →
    IsNarrowing g k.part.state.variables new (equates e.variable e.term) others → IsRestricted g k.part (equates e.variable e.term) new r → MayBePut g r e → IsSortedPart g r →
    IsRestricted g k.part others [] q → IsApart g (left_side g left) q → IsOnCourse g left p (replaced_course g e r k) (apart ++ q ∷ [])
law_narrowed g left p k apart r q new e others o n i m s j a = on_narrowed g left p k apart r q new e others o n (narrowed g k.part r new e i s m) j a s

pub law_whole : (g : KoreSignature) (left : Form) (p : StatePart) (k : Course) (apart : List StatePart) (r : StatePart) (new : List SortedName) (e : Equation) (others : List (List Literal)) → IsOnCourse g left p k apart →
    IsNarrowing g k.part.state.variables new (equates e.variable e.term) others → IsRestricted g k.part (equates e.variable e.term) new r → MayBePut g r e → IsSortedPart g r →
    ((w : Valuation) → GivesSorts g w k.part.state.variables → ¬ AreTrue g w others) → IsOnCourse g left p (replaced_course g e r k) apart
law_whole g left p k apart r new e others o n i m s never = on_narrowed_whole g left p k apart r new e others o n (narrowed g k.part r new e i s m) never s
