-- Whether each name has one sort, asked part by part.
use Rattle.std.proofs.Common.{◌≡◌, refl, sym, ap, subst, ◌∙◌, ◌||◌, ◌↔◌, ℕ, ◌+◌, ◌<◌, Bool, true, false, List, ◌++◌, map, length, get_or, drop}
use Rattle.std.specs.Prelude.{IsTrue}
use Rattle.std.specs.List.{AllByRecursion}
use Rattle.kp_kore.specs.Syntax.{Text, KoreSort}
use Rattle.kp_kore.specs.Parts.{SortedName}
use Rattle.kp_kore.specs.Instance.{is_named}
use Rattle.kp_kore.proofs.NameLemmas.{true_is_false}
use Rattle.kp_kore.proofs.TurnLemmas.{of_member, each_member}
use Rattle.kp_kore.proofs.ListLemmas.{one_left}
use Rattle.kp_symbolic.proofs.Distribution.{all_both, all_first, all_second}
use Rattle.kp_symbolic_laws.specs.Runs.{HasOneSortEach}
use Rattle.kp_rules.specs.Skeletons.{skeleton_view, forms_of}
use Rattle.kp_rules.specs.declared.skeleton.Skeleton.{Skeleton}
use Rattle.kp_case_laws.specs.Courses.{form_variables, all_form_variables}
use Rattle.kp_step.specs.OneSort.{HasOnly, HaveOnlySortsOf}
use Rattle.kp_step.proofs.NewLemmas.{named_in_both}

pub one_sort_each : (xs : List SortedName) → HaveOnlySortsOf xs xs ↔ HasOneSortEach xs
one_sort_each xs = (
  (λ h x y c d e. sym (of_member (λ z. z.name ≡ x.name → z.sort ≡ x.sort) xs y (of_member (λ z. HasOnly z.name z.sort xs) xs x h c) d (sym e))),
  (λ h. each_member (λ x. HasOnly x.name x.sort xs) xs (λ x c. each_member (λ y. y.name ≡ x.name → y.sort ≡ x.sort) xs (λ y d e. h y x d c e))),
)

-- ---- parts one by one

abbrev pub AllOf : (SortedName → Type 0) → List Skeleton → Type 0
AllOf P ks = AllByRecursion P (all_form_variables (forms_of (map skeleton_view ks)))

-- of the first and of the others
pub front_of : (P : SortedName → Type 0) (ks : List Skeleton) (i : ℕ) (k : Skeleton) → i < length ks → k ≡ get_or ks i k → AllOf P (drop i ks) ↔ (AllByRecursion P (form_variables (skeleton_view k)) × AllOf P (drop (i + 1) ks))
front_of P ks i k h e =
    let xs = form_variables (skeleton_view k) in
    let ys = all_form_variables (forms_of (map skeleton_view (drop (i + 1) ks))) in
    subst (λ js. AllOf P js ↔ (AllByRecursion P xs × AllOf P (drop (i + 1) ks))) (sym (one_left ks i k h e))
    ((λ a. (all_first P xs ys a, all_second P xs ys a)), (λ a. all_both P xs ys a.0 a.1))

pub part_more : (P : SortedName → Type 0) (ks : List Skeleton) (i : ℕ) (k : Skeleton) → i < length ks → k ≡ get_or ks i k → AllByRecursion P (form_variables (skeleton_view k)) → AllOf P (drop i ks) ↔ AllOf P ks → AllOf P (drop (i + 1) ks) ↔ AllOf P ks
part_more P ks i k h e p a =
    let f = front_of P ks i k h e in
    ((λ rest. a.0 (f.1 (p, rest))), (λ all. (f.0 (a.1 all)).1))

pub part_fails : (P : SortedName → Type 0) (ks : List Skeleton) (i : ℕ) (k : Skeleton) → i < length ks → k ≡ get_or ks i k → ¬ AllByRecursion P (form_variables (skeleton_view k)) → AllOf P (drop i ks) ↔ AllOf P ks → IsTrue false ↔ AllOf P ks
part_fails P ks i k h e n a =
    let f = front_of P ks i k h e in
    ((λ no. absurd (true_is_false (sym no))), (λ all. absurd (n (f.0 (a.1 all)).0)))

pub so_false : (b : Bool) → b ≡ false → ¬ (b ≡ true)
so_false b n h = true_is_false (sym h ∙ n)

pub only_more : (name : Text) (sort : KoreSort) (ks : List Skeleton) (i : ℕ) (k : Skeleton) → i < length ks → k ≡ get_or ks i k → (b : Bool) → b ≡ true → IsTrue b ↔ HasOnly name sort (form_variables (skeleton_view k)) →
    HasOnly name sort (all_form_variables (forms_of (map skeleton_view (drop i ks)))) ↔ HasOnly name sort (all_form_variables (forms_of (map skeleton_view ks))) →
    HasOnly name sort (all_form_variables (forms_of (map skeleton_view (drop (i + 1) ks)))) ↔ HasOnly name sort (all_form_variables (forms_of (map skeleton_view ks)))
only_more name sort ks i k h e b n t a = part_more (λ y. y.name ≡ name → y.sort ≡ sort) ks i k h e (t.0 n) a

pub only_fails : (name : Text) (sort : KoreSort) (ks : List Skeleton) (i : ℕ) (k : Skeleton) → i < length ks → k ≡ get_or ks i k → (b : Bool) → b ≡ false → IsTrue b ↔ HasOnly name sort (form_variables (skeleton_view k)) →
    HasOnly name sort (all_form_variables (forms_of (map skeleton_view (drop i ks)))) ↔ HasOnly name sort (all_form_variables (forms_of (map skeleton_view ks))) → IsTrue false ↔ HasOnly name sort (all_form_variables (forms_of (map skeleton_view ks)))
only_fails name sort ks i k h e b n t a = part_fails (λ y. y.name ≡ name → y.sort ≡ sort) ks i k h e (λ p. so_false b n (t.1 p)) a

pub one_more : (others : List SortedName) (ks : List Skeleton) (i : ℕ) (k : Skeleton) → i < length ks → k ≡ get_or ks i k → (b : Bool) → b ≡ true → IsTrue b ↔ HaveOnlySortsOf others (form_variables (skeleton_view k)) →
    HaveOnlySortsOf others (all_form_variables (forms_of (map skeleton_view (drop i ks)))) ↔ HaveOnlySortsOf others (all_form_variables (forms_of (map skeleton_view ks))) →
    HaveOnlySortsOf others (all_form_variables (forms_of (map skeleton_view (drop (i + 1) ks)))) ↔ HaveOnlySortsOf others (all_form_variables (forms_of (map skeleton_view ks)))
one_more others ks i k h e b n t a = part_more (λ x. HasOnly x.name x.sort others) ks i k h e (t.0 n) a

pub one_fails : (others : List SortedName) (ks : List Skeleton) (i : ℕ) (k : Skeleton) → i < length ks → k ≡ get_or ks i k → (b : Bool) → b ≡ false → IsTrue b ↔ HaveOnlySortsOf others (form_variables (skeleton_view k)) →
    HaveOnlySortsOf others (all_form_variables (forms_of (map skeleton_view (drop i ks)))) ↔ HaveOnlySortsOf others (all_form_variables (forms_of (map skeleton_view ks))) → IsTrue false ↔ HaveOnlySortsOf others (all_form_variables (forms_of (map skeleton_view ks)))
one_fails others ks i k h e b n t a = part_fails (λ x. HasOnly x.name x.sort others) ks i k h e (λ p. so_false b n (t.1 p)) a

or_true : (b : Bool) → (b || true) ≡ true
or_true true = refl
or_true false = refl

named_behind : (x : Text) (xs ys : List SortedName) → is_named x ys ≡ true → is_named x (xs ++ ys) ≡ true
named_behind x xs ys n = named_in_both x xs ys ∙ ap (λ b. is_named x xs || b) n ∙ or_true (is_named x xs)

-- a name among the others is among all
pub named_more : (name : Text) (ks : List Skeleton) (i : ℕ) (k : Skeleton) → i < length ks → k ≡ get_or ks i k → (is_named name (all_form_variables (forms_of (map skeleton_view (drop i ks)))) ≡ true → is_named name (all_form_variables (forms_of (map skeleton_view ks))) ≡ true) →
    is_named name (all_form_variables (forms_of (map skeleton_view (drop (i + 1) ks)))) ≡ true → is_named name (all_form_variables (forms_of (map skeleton_view ks))) ≡ true
named_more name ks i k h e f rest =
    f (subst (λ js. is_named name (all_form_variables (forms_of (map skeleton_view js))) ≡ true) (sym (one_left ks i k h e))
    (named_behind name (form_variables (skeleton_view k)) (all_form_variables (forms_of (map skeleton_view (drop (i + 1) ks)))) rest))
