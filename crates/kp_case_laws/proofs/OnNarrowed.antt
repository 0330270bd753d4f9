-- A course goes on where a variable is narrowed by a sort or by a constructor, or is asked for the heads that two sorts share.
use Rattle.std.proofs.Common.{◌≡◌, refl, sym, ◌∙◌, ap, subst, Bool, true, false, ◌||◌, List, [], ◌∷◌, ◌++◌, inl, inr, ◌⊎◌, arith}
use Rattle.std.specs.Prelude.{if◌then◌else◌}
use Rattle.std.specs.List.{AllByRecursion, Contains}
use Rattle.std.specs.Str.{bytes_eq}
use Rattle.std.proofs.lemmas.Slice.Eq.{bytes_eq-Decides}
use Rattle.std.proofs.lemmas.List.Elements.{Contains-append_left, Contains-append_right, Contains-append_cases}
use Rattle.kp_kore.specs.Syntax.{Text, KoreSort}
use Rattle.kp_kore.specs.Parts.{SortedName}
use Rattle.kp_kore.specs.Signature.{KoreSignature, construction, meaning_of, constructor_of, IsHeadOf, IsBelow, itself}
use Rattle.kp_kore.specs.Instance.{is_named}
use Rattle.kp_kore.specs.Scopes.{IsWithin}
use Rattle.kp_kore.proofs.NameLemmas.{true_is_false}
use Rattle.kp_kore.proofs.TurnLemmas.{each_member}
use Rattle.kp_compile.specs.Spelled.{places_of}
use Rattle.kp_symbolic.specs.Terms.{unknown, all_term_variables}
use Rattle.kp_symbolic.specs.States.{head_of_sort, Literal}
use Rattle.kp_symbolic.specs.WellFormed.{IsWellSorted, AreWellSorted, AreAtHand, stands_in_terms}
use Rattle.kp_symbolic.specs.Solving.{Equation}
use Rattle.kp_symbolic.proofs.Folded.{applied_variables}
use Rattle.kp_symbolic.proofs.SortedFolding.{applied_sorted}
use Rattle.kp_symbolic.proofs.WellSorted.{plain_symbol, IsPlainSymbol, sorted_above}
use Rattle.kp_symbolic_laws.specs.Runs.{HasOneSortEach}
use Rattle.kp_symbolic_laws.proofs.RightEquations.{IsRightEquation}
use Rattle.kp_symbolic_laws.proofs.Step.{at_hand_given}
use Rattle.kp_rules.specs.Skeletons.{Form, Forms}
use Rattle.kp_case_laws.specs.Parts.{StatePart, IsRestricted, with_clauses, IsSortedPart, AreNew}
use Rattle.kp_case_laws.specs.Narrowings.{IsNarrowing, equates, head_clauses, are_never, all_unknown, constructor_term, has_other_head, sorts_of_names, IsForConstructor, part_with_term, heads_inside, heads_outside}
use Rattle.kp_case_laws.specs.Cases.{IsApart, left_side}
use Rattle.kp_case_laws.specs.Courses.{FormPair, Course, with_pair, replaced_course, course_in, IsMeet, HasMeets, IsOfSort, with_split, IsOnCourse}
use Rattle.kp_case_laws.specs.Rows.{HasMembers, AsksSort, IsMadeOf, AreTermsOf}
use Rattle.kp_case_laws.proofs.PartLemmas.{clauses_restrict}
use Rattle.kp_case_laws.proofs.HandLemmas.{agrees_at_hand}
use Rattle.kp_case_laws.proofs.NarrowingLemmas.{constructor_narrows, sort_narrows, never_true}
use Rattle.kp_case_laws.proofs.HeadPartLemmas.{heads_narrow}
use Rattle.kp_case_laws.proofs.Refining.{term_restricts, term_sorts}
use Rattle.kp_case_laws.proofs.SortedParts.{sorted_with, inside_sorted}
use Rattle.kp_case_laws.proofs.SortLemmas.{IsNarrowed, by_form, by_value}
use Rattle.kp_case_laws.proofs.CourseLemmas.{split_is_apart}
use Rattle.kp_case_laws.proofs.OnCourse.{on_asked, on_asked_whole, on_narrowed, on_narrowed_whole}
use Rattle.kp_case_laws.proofs.RowLemmas.{apart_by_head, apart_by_meet, apart_by_heads, sort_by_heads, symbol_sort, one_own}
use Rattle.kp_case_laws.proofs.OnRows.{only_one, of_left, on_put, of_new, terms_of_new}

-- ---- new variables

-- a variable of the scope has a name of the scope
named_there : (xs : List SortedName) (x : SortedName) → Contains xs x → is_named x.name xs ≡ true
named_there [] x c = let less = c.1 in absurd (omega arith)
named_there (y ∷ xs) x c = by (bytes_eq y.name x.name) refl (named_there xs x) (Contains-append_cases (y ∷ []) xs x c)
  where
    by : (b : Bool) → bytes_eq y.name x.name ≡ b → (Contains xs x → is_named x.name xs ≡ true) → Contains (y ∷ []) x ⊎ Contains xs x → b || is_named x.name xs ≡ true
    by true e rest h = refl
    by false e rest (inl h) = absurd (true_is_false (sym ((bytes_eq-Decides y.name x.name).1 (ap (λ z. z.name) (only_one y x h))) ∙ e))
    by false e rest (inr h) = rest h

not_both : (hand : List SortedName) (x y : SortedName) → Contains hand x → x.name ≡ y.name → ¬ (is_named y.name hand ≡ false)
not_both hand x y c e n = true_is_false (sym (subst (λ z. is_named z hand ≡ true) e (named_there hand x c)) ∙ n)

new_apart : (hand new : List SortedName) (x y : SortedName) → AreNew hand new → Contains hand x → Contains new y → ¬ (x.name ≡ y.name)
new_apart hand [] x y a c d e = let less = d.1 in absurd (omega arith)
new_apart hand (z ∷ new) x y a c d e = elim (Contains-append_cases (z ∷ []) new y d) [
  | inl h ↦ not_both hand x z c (e ∙ sym (ap (λ k. k.name) (only_one z y h))) a.0
  | inr h ↦ new_apart hand new x y a.2 c h e
]

one_of_new : (hand new : List SortedName) → AreNew hand new → HasOneSortEach new
one_of_new hand [] a x y c d e = let less = c.1 in absurd (omega arith)
one_of_new hand (z ∷ new) a x y c d e = elim (Contains-append_cases (z ∷ []) new x c) [
  | inl h ↦ elim (Contains-append_cases (z ∷ []) new y d) [
    | inl k ↦ ap (λ m. m.sort) (sym (only_one z x h) ∙ only_one z y k)
    | inr k ↦ absurd (not_both new y z k (sym e ∙ sym (ap (λ m. m.name) (only_one z x h))) a.1)
  ]
  | inr h ↦ elim (Contains-append_cases (z ∷ []) new y d) [
    | inl k ↦ absurd (not_both new x z h (e ∙ sym (ap (λ m. m.name) (only_one z y k))) a.1)
    | inr k ↦ one_of_new hand new a.2 x y h k e
  ]
]

pub one_sort_still : (hand new : List SortedName) → HasOneSortEach hand → AreNew hand new → HasOneSortEach (hand ++ new)
one_sort_still hand new one a x y c d e = elim (Contains-append_cases hand new x c) [
  | inl h ↦ elim (Contains-append_cases hand new y d) [ inl k ↦ one x y h k e | inr k ↦ absurd (new_apart hand new x y a h k e) ]
  | inr h ↦ elim (Contains-append_cases hand new y d) [ inl k ↦ absurd (new_apart hand new y x a k h (sym e)) | inr k ↦ one_of_new hand new a x y h k e ]
]

-- ---- a narrowing

pub within_hand : (g : KoreSignature) (xs hand : List SortedName) → AreAtHand xs hand → IsWithin g xs hand
within_hand g xs hand a = record { sorts = λ w h. at_hand_given g w hand xs h a; agree = λ v w h. agrees_at_hand v w hand xs h a }

pub narrowed_to : (g : KoreSignature) (p : StatePart) (e : Equation) (new : List SortedName) → IsSortedPart g p → AreNew p.state.variables new → IsRightEquation g (p.state.variables ++ new) e → IsNarrowed g p (part_with_term g e new p) new e
narrowed_to g p e new k a right =
    let one = one_sort_still p.state.variables new k.state.one_sort_each a in
    record { restricted = term_restricts g p e new k one right; one = one; right = right }

pub narrowed_sorts : (g : KoreSignature) (p : StatePart) (e : Equation) (new : List SortedName) → IsSortedPart g p → AreNew p.state.variables new → IsRightEquation g (p.state.variables ++ new) e → IsSortedPart g (part_with_term g e new p)
narrowed_sorts g p e new k a right = term_sorts g p e new k (one_sort_still p.state.variables new k.state.one_sort_each a) right

on_split : (g : KoreSignature) (left : Form) (p : StatePart) (k : Course) (apart : List StatePart) (new : List SortedName) (e : Equation) (others : List (List Literal)) → IsOnCourse g left p k apart → IsNarrowing g k.part.state.variables new (equates e.variable e.term) others →
    IsApart g (left_side g left) (with_clauses k.part others) → AreNew k.part.state.variables new → IsRightEquation g (k.part.state.variables ++ new) e → IsOnCourse g left p (replaced_course g e (part_with_term g e new k.part) k) (with_split k.part others apart)
on_split g left p k apart new e others o n i a right = by (are_never others) refl
  where
    by : (b : Bool) → are_never others ≡ b → IsOnCourse g left p (replaced_course g e (part_with_term g e new k.part) k) (if b then apart else apart ++ with_clauses k.part others ∷ [])
    by true q = on_narrowed_whole g left p k apart (part_with_term g e new k.part) new e others o n (narrowed_to g k.part e new o.sorted.part a right) (λ w sorts. never_true g w others q) (narrowed_sorts g k.part e new o.sorted.part a right)
    by false q = on_narrowed g left p k apart (part_with_term g e new k.part) (with_clauses k.part others) new e others o n (narrowed_to g k.part e new o.sorted.part a right) (clauses_restrict g k.part others) i (narrowed_sorts g k.part e new o.sorted.part a right)

-- the pair's variable is at hand
pair_at_hand : (g : KoreSignature) (left : Form) (p : StatePart) (k : Course) (apart : List StatePart) (form : Form) (x : SortedName) → IsOnCourse g left p (with_pair k (record { form = form; term = unknown x })) apart → Contains k.part.state.variables x
pair_at_hand g left p k apart form x o = (of_left g left p k apart (record { form = form; term = unknown x }) o).0.at_hand.0

-- ---- by a sort

pub step_sort : (g : KoreSignature) (left : Form) (p : StatePart) (k : Course) (apart : List StatePart) (form : Form) (x y : SortedName) (s : KoreSort) → IsOnCourse g left p (with_pair k (record { form = form; term = unknown x })) apart → AsksSort g form s → IsMeet g x.sort s y.sort → AreNew k.part.state.variables (y ∷ []) →
    IsOnCourse g left p (with_pair (replaced_course g (record { variable = x; term = unknown y }) (part_with_term g (record { variable = x; term = unknown y }) (y ∷ []) k.part) k) (record { form = form; term = unknown y }))
    (with_split k.part (head_clauses g false x (head_of_sort y.sort)) apart)
    × IsOfSort g (part_with_term g (record { variable = x; term = unknown y }) (y ∷ []) k.part) s (unknown y)
step_sort g left p k apart form x y s o f m a =
    let hand = k.part.state.variables in
    let e : Equation = record { variable = x; term = unknown y } in
    let q : FormPair = record { form = form; term = unknown x } in
    let others = head_clauses g false x (head_of_sort y.sort) in
    let c = pair_at_hand g left p k apart form x o in
    let behind : Contains (hand ++ y ∷ []) y = Contains-append_right hand (y ∷ []) y (Contains-append_left (y ∷ []) [] y (stands y)) in
    let right : IsRightEquation g (hand ++ y ∷ []) e = record { variable = Contains-append_left hand (y ∷ []) x c; at_hand = (behind, tt); sorted = m.below_first } in (
      on_put g left p (part_with_term g e (y ∷ []) k.part) k (with_split k.part others apart) form e
          (on_split g left p (with_pair k q) apart (y ∷ []) e others o (sort_narrows g hand x y (within_hand g (x ∷ []) hand (c, tt)) a)
          (split_is_apart g left k q (with_clauses k.part others) others o.course (clauses_restrict g k.part others) (λ w r sorts t. apart_by_meet g w r form x s y.sort f m (at_hand_given g w hand (x ∷ []) sorts (c, tt)).0 t))
          a right),
      by_form g (part_with_term g e (y ∷ []) k.part) s (unknown y) m.below_second (behind, tt),
    )
  where
    stands : (z : SortedName) → Contains (z ∷ []) z
    stands z = (each_member (λ t. Contains (z ∷ []) t) (z ∷ []) (λ t d. d)).0

-- ---- by a constructor

unknowns_sorted : (g : KoreSignature) (new : List SortedName) → AreWellSorted g (sorts_of_names new) (all_unknown new)
unknowns_sorted g [] = tt
unknowns_sorted g (y ∷ new) = (itself y.sort, unknowns_sorted g new)

unknowns_at_hand : (hand new : List SortedName) → AreAtHand new hand → AllByRecursion (λ x. Contains hand x) (all_term_variables (all_unknown new))
unknowns_at_hand hand [] a = tt
unknowns_at_hand hand (y ∷ new) a = (a.0, unknowns_at_hand hand new a.1)

all_behind : (hand new : List SortedName) → AreAtHand new (hand ++ new)
all_behind hand new = each_member (λ x. Contains (hand ++ new) x) new (λ x c. Contains-append_right hand new x c)

constructor_sorted : (g : KoreSignature) (s : KoreSort) (c : Text) (new : List SortedName) → meaning_of g c ≡ construction → sorts_of_names new ≡ places_of g c → IsHeadOf g s (constructor_of c) → IsWellSorted g s (constructor_term g c new)
constructor_sorted g s c new m e (own, i, below) =
    let stands : stands_in_terms (meaning_of g c) ≡ true = ap stands_in_terms m in
    let k : IsPlainSymbol g c = plain_symbol g c stands in
    sorted_above g k.declaration.result s (constructor_term g c new) (subst (λ a. IsBelow g.subsorts a s) (one_own g (constructor_of c) own k.declaration.result i (symbol_sort g c (constructor_of c) k construction m refl)) below)
    (applied_sorted g c (all_unknown new) k stands (subst (λ ss. AreWellSorted g ss (all_unknown new)) e (unknowns_sorted g new)))

pub step_constructor : (g : KoreSignature) (left : Form) (p : StatePart) (k : Course) (apart : List StatePart) (form : Form) (x : SortedName) (c : Text) (fs : Forms) (new : List SortedName) → IsOnCourse g left p (with_pair k (record { form = form; term = unknown x })) apart →
    HasMembers form c fs → meaning_of g c ≡ construction → sorts_of_names new ≡ places_of g c → AreNew k.part.state.variables new → IsHeadOf g x.sort (constructor_of c) →
    IsOnCourse g left p (with_pair (replaced_course g (record { variable = x; term = constructor_term g c new }) (part_with_term g (record { variable = x; term = constructor_term g c new }) new k.part) k) (record { form = form; term = constructor_term g c new }))
    (with_split k.part (has_other_head g x c new) apart)
    × IsMadeOf g (k.part.state.variables ++ new) (constructor_term g c new) c (all_unknown new) × AreTermsOf g (k.part.state.variables ++ new) (all_unknown new)
step_constructor g left p k apart form x c fs new o h m ss a head =
    let hand = k.part.state.variables in
    let t = constructor_term g c new in
    let e : Equation = record { variable = x; term = t } in
    let q : FormPair = record { form = form; term = unknown x } in
    let others = has_other_head g x c new in
    let d = pair_at_hand g left p k apart form x o in
    let behind : AreAtHand new (hand ++ new) = all_behind hand new in
    let for_it : IsForConstructor g hand x c new = record { at_hand = within_hand g (x ∷ []) hand (d, tt); constructs = m; sorts = ss; are_new = a } in
    let right : IsRightEquation g (hand ++ new) e = record {
      variable = Contains-append_left hand new x d;
      at_hand = applied_variables g (λ z. Contains (hand ++ new) z) c (all_unknown new) (unknowns_at_hand (hand ++ new) new behind);
      sorted = constructor_sorted g x.sort c new m ss head;
    } in (
      on_put g left p (part_with_term g e new k.part) k (with_split k.part others apart) form e
          (on_split g left p (with_pair k q) apart new e others o (constructor_narrows g hand x c new for_it)
          (split_is_apart g left k q (with_clauses k.part others) others o.course (clauses_restrict g k.part others) (λ w r sorts y. apart_by_head g w r hand form x c fs new h for_it sorts y))
          a right),
      of_new g (hand ++ new) c new m behind,
      terms_of_new g (hand ++ new) new behind,
    )

-- ---- by the heads that two sorts share

pub step_heads : (g : KoreSignature) (left : Form) (p : StatePart) (k : Course) (apart : List StatePart) (form : Form) (x : SortedName) (s : KoreSort) → IsOnCourse g left p (with_pair k (record { form = form; term = unknown x })) apart → AsksSort g form s → ¬ HasMeets g s →
    IsOnCourse g left p (with_pair (course_in (with_clauses k.part (heads_inside g x s)) k) (record { form = form; term = unknown x })) (with_split k.part (heads_outside g x s) apart)
    × IsOfSort g (with_clauses k.part (heads_inside g x s)) s (unknown x)
step_heads g left p k apart form x s o f none =
    let hand = k.part.state.variables in
    let q : FormPair = record { form = form; term = unknown x } in
    let inside = heads_inside g x s in
    let others = heads_outside g x s in
    let c = pair_at_hand g left p k apart form x o in
    let n = heads_narrow g hand x s (within_hand g (x ∷ []) hand (c, tt)) in
    let i = clauses_restrict g k.part inside in
    let sorted = sorted_with g k.part inside o.sorted.part (inside_sorted g hand x s c) in (
      by_split (are_never others) refl n i sorted (split_is_apart g left k q (with_clauses k.part others) others o.course (clauses_restrict g k.part others) (λ w r sorts t. apart_by_heads g w r form x s f (at_hand_given g w hand (x ∷ []) sorts (c, tt)).0 t)),
      by_value g (with_clauses k.part inside) s x c (λ w u sorts met. sort_by_heads g w x s (at_hand_given g w hand (x ∷ []) sorts (c, tt)).0 ((i.instances w u sorts).0 met).1) none,
    )
  where
    by_split : (b : Bool) → are_never (heads_outside g x s) ≡ b → IsNarrowing g k.part.state.variables [] (heads_inside g x s) (heads_outside g x s) → IsRestricted g k.part (heads_inside g x s) [] (with_clauses k.part (heads_inside g x s)) → IsSortedPart g (with_clauses k.part (heads_inside g x s)) →
        IsApart g (left_side g left) (with_clauses k.part (heads_outside g x s)) →
        IsOnCourse g left p (with_pair (course_in (with_clauses k.part (heads_inside g x s)) k) (record { form = form; term = unknown x })) (if b then apart else apart ++ with_clauses k.part (heads_outside g x s) ∷ [])
    by_split true e n i sorted away = on_asked_whole g left p (with_pair k (record { form = form; term = unknown x })) apart (with_clauses k.part (heads_inside g x s)) (heads_inside g x s) (heads_outside g x s) o n i (λ w gives. never_true g w (heads_outside g x s) e) sorted
    by_split false e n i sorted away = on_asked g left p (with_pair k (record { form = form; term = unknown x })) apart (with_clauses k.part (heads_inside g x s)) (with_clauses k.part (heads_outside g x s)) (heads_inside g x s) (heads_outside g x s) o n i (clauses_restrict g k.part (heads_outside g x s)) away sorted
