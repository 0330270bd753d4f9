-- A left side in which each name stands at a sort of what its sorts share stands for the same values.
use Rattle.std.proofs.Common.{◌≡◌, refl, sym, ap, subst, ◌∙◌, ◌↔◌, ℕ, ◌+◌, ◌<◌, ◌≤◌, List, [], ◌∷◌, ◌++◌, map, length, get_or, drop, Option, Some, None}
use Rattle.std.specs.Prelude.{MatchOption, ⊤}
use Rattle.std.specs.List.{AllByRecursion}
use Rattle.kp_kore.specs.Syntax.{Text, KoreSort}
use Rattle.kp_kore.specs.Parts.{SortedName}
use Rattle.kp_kore.specs.Signature.{KoreSignature}
use Rattle.kp_kore.specs.Value.{Value, whole, truth, token, constructed, Values, no_values, next_value, HasSort, head_of}
use Rattle.kp_kore.specs.Instance.{Valuation, GivesSorts}
use Rattle.kp_kore.specs.Theory.{Theory}
use Rattle.kp_kore.proofs.TurnLemmas.{of_member, each_member}
use Rattle.kp_kore.proofs.ListLemmas.{one_left, none_left}
use Rattle.kp_signature.proofs.SortLemmas.{has_sort_above}
use Rattle.kp_symbolic.proofs.Distribution.{all_both}
use Rattle.kp_symbolic.proofs.HeadLemmas.{head_from_sort}
use Rattle.kp_symbolic.proofs.HeadQuestions.{sort_from_head}
use Rattle.kp_rules.specs.Skeletons.{Form, anything, nothing, any_of, one_of, fixed, built, Forms, no_forms, next_form, Admits, AdmitAll, skeleton_view, forms_of}
use Rattle.kp_rules.specs.declared.skeleton.Skeleton.{Skeleton}
use Rattle.kp_case_laws.specs.Courses.{IsMeet, form_variables, all_form_variables}
use Rattle.kp_step.specs.OneSort.{HasEachOf, IsLowest, IsLowered, AreLowered}
use Rattle.kp_step.specs.Rules.{IsForeignAt}
use Rattle.kp_step.proofs.OneSortLemmas.{AllOf, front_of}

-- ---- what stands for a value

-- each variable has a value of its sort
abbrev pub HaveSorts : KoreSignature → Valuation → List SortedName → Type 0
HaveSorts g v xs = AllByRecursion (λ x. HasSort g x.sort (v x.name)) xs

mutual
  pub have_sorts : (g : KoreSignature) (v : Valuation) (form : Form) (u : Value) → Admits g v form u → HaveSorts g v (form_variables form)
  have_sorts g v anything u a = tt
  have_sorts g v nothing u a = absurd a
  have_sorts g v (any_of s) u a = tt
  have_sorts g v (one_of x s) u a = (subst (λ z. HasSort g s z) a.0 a.1, tt)
  have_sorts g v (fixed w) u a = tt
  have_sorts g v (built f ks) (whole n) a = absurd a
  have_sorts g v (built f ks) (truth b) a = absurd a
  have_sorts g v (built f ks) (token s x) a = absurd a
  have_sorts g v (built f ks) (constructed c us) a = all_have_sorts g v ks us a.1

  all_have_sorts : (g : KoreSignature) (v : Valuation) (forms : Forms) (us : Values) → AdmitAll g v forms us → HaveSorts g v (all_form_variables forms)
  all_have_sorts g v no_forms us a = tt
  all_have_sorts g v (next_form k ks) no_values a = absurd a
  all_have_sorts g v (next_form k ks) (next_value u us) a = all_both (λ x. HasSort g x.sort (v x.name)) (form_variables k) (all_form_variables ks) (have_sorts g v k u a.0) (all_have_sorts g v ks us a.1)

-- ---- a sort of what sorts share

-- of both sorts
pub lowest_by_meet : (g : KoreSignature) (name : Text) (sort : KoreSort) (y : SortedName) (m : KoreSort) → y.name ≡ name → IsMeet g sort y.sort m → IsLowest g name sort (y ∷ []) m
lowest_by_meet g name sort y m e i u = (
  (λ h. (has_sort_above g m sort u i.below_first h, ((λ n. has_sort_above g m y.sort u i.below_second h), tt))),
  (λ h. sort_from_head g sort m u h.0 (i.common (head_of u) (head_from_sort g sort u h.0) (head_from_sort g y.sort u (h.1.0 e)))),
)

pub lower_of : {A : Type 0} (see : A → KoreSort) (o : Option A) (g : KoreSignature) (name : Text) (sort : KoreSort) (y : SortedName) (N : Type 0) → y.name ≡ name → MatchOption o N (λ m. IsMeet g sort y.sort (see m)) →
    MatchOption o ⊤ (λ low. IsLowest g name sort (y ∷ []) (see low))
lower_of see None g name sort y N e i = tt
lower_of see (Some m) g name sort y N e i = lowest_by_meet g name sort y (see m) e i

-- of a variable with another name
pub lowest_of_other : (g : KoreSignature) (name : Text) (sort : KoreSort) (y : SortedName) → ¬ (y.name ≡ name) → IsLowest g name sort (y ∷ []) sort
lowest_of_other g name sort y n u = ((λ h. (h, ((λ e. absurd (n e)), tt))), (λ h. h.0))

pub lowest_of_none : (g : KoreSignature) (name : Text) (sort : KoreSort) → IsLowest g name sort [] sort
lowest_of_none g name sort u = ((λ h. (h, tt)), (λ h. h.0))

-- what is left to ask of a list, behind its first ones
abbrev pub IsLowering : KoreSignature → Text → KoreSort → List Skeleton → ℕ → KoreSort → Type 0
IsLowering g name sort ks i low = (u : Value) → (HasSort g low u × AllOf (λ y. y.name ≡ name → HasSort g y.sort u) (drop i ks)) ↔ (HasSort g sort u × AllOf (λ y. y.name ≡ name → HasSort g y.sort u) ks)

pub lowering_begins : (g : KoreSignature) (name : Text) (sort : KoreSort) (ks : List Skeleton) → IsLowering g name sort ks 0 sort
lowering_begins g name sort ks u = ((λ h. h), (λ h. h))

pub lowering_goes_on : (g : KoreSignature) (name : Text) (sort low next : KoreSort) (ks : List Skeleton) (i : ℕ) (k : Skeleton) → i < length ks → k ≡ get_or ks i k → IsLowest g name low (form_variables (skeleton_view k)) next →
    IsLowering g name sort ks i low → IsLowering g name sort ks (i + 1) next
lowering_goes_on g name sort low next ks i k h e one before u =
    let f = front_of (λ y. y.name ≡ name → HasSort g y.sort u) ks i k h e in (
      (λ a. let b = (one u).0 a.0 in (before u).0 (b.0, f.1 (b.1, a.1))),
      (λ a. let b = (before u).1 a in let c = f.0 b.1 in ((one u).1 (b.0, c.0), c.1)),
    )

pub lowering_ends : (g : KoreSignature) (name : Text) (sort low : KoreSort) (ks : List Skeleton) (i : ℕ) → length ks ≤ i → IsLowering g name sort ks i low → IsLowest g name sort (all_form_variables (forms_of (map skeleton_view ks))) low
lowering_ends g name sort low ks i past before u =
    let none : AllOf (λ y. y.name ≡ name → HasSort g y.sort u) (drop i ks) = subst (AllOf (λ y. y.name ≡ name → HasSort g y.sort u)) (sym (none_left ks i past)) tt in
    ((λ h. (before u).0 (h, none)), (λ h. ((before u).1 h).0))

-- ---- forms

each_of_given : (g : KoreSignature) (v : Valuation) (xs : List SortedName) (name : Text) (u : Value) → GivesSorts g v xs → u ≡ v name → HasEachOf g name xs u
each_of_given g v xs name u h e =
    each_member (λ y. y.name ≡ name → HasSort g y.sort u) xs
    (λ y c n. subst (HasSort g y.sort) (ap v n ∙ sym e) (of_member (λ z. HasSort g z.sort (v z.name)) xs y h c))

pub variable_lowered : (g : KoreSignature) (xs : List SortedName) (name : Text) (sort low : KoreSort) → IsLowest g name sort xs low → IsLowered g xs (one_of name sort) (one_of name low)
variable_lowered g xs name sort low is v u = (
  (λ a. (a.0, ((is u).0 a.1).0)),
  (λ h a. (a.0, (is u).1 (a.1, each_of_given g v xs name u h a.0))),
)

pub variable_made : (g : KoreSignature) (xs : List SortedName) (name : Text) (sort low : KoreSort) (k : Skeleton) → skeleton_view k ≡ one_of name low → IsLowest g name sort xs low → IsLowered g xs (one_of name sort) (skeleton_view k)
variable_made g xs name sort low k e is = subst (IsLowered g xs (one_of name sort)) (sym e) (variable_lowered g xs name sort low is)

pub same_lowered : (g : KoreSignature) (xs : List SortedName) (form low : Form) → low ≡ form → IsLowered g xs form low
same_lowered g xs form low e v u = ((λ a. subst (λ f. Admits g v f u) e a), (λ h a. subst (λ f. Admits g v f u) (sym e) a))

pub built_lowered : (g : KoreSignature) (xs : List SortedName) (f : Text) (forms lows : Forms) → AreLowered g xs forms lows → IsLowered g xs (built f forms) (built f lows)
built_lowered g xs f forms lows all v (whole n) = ((λ a. absurd a), (λ h a. absurd a))
built_lowered g xs f forms lows all v (truth b) = ((λ a. absurd a), (λ h a. absurd a))
built_lowered g xs f forms lows all v (token s x) = ((λ a. absurd a), (λ h a. absurd a))
built_lowered g xs f forms lows all v (constructed c us) = ((λ a. (a.0, (all v us).0 a.1)), (λ h a. (a.0, (all v us).1 h a.1)))

none_lowered : (g : KoreSignature) (xs : List SortedName) → AreLowered g xs no_forms no_forms
none_lowered g xs v us = ((λ a. a), (λ h a. a))

first_lowered : (g : KoreSignature) (xs : List SortedName) (k low : Form) (ks lows : Forms) → IsLowered g xs k low → AreLowered g xs ks lows → AreLowered g xs (next_form k ks) (next_form low lows)
first_lowered g xs k low ks lows one all v no_values = ((λ a. absurd a), (λ h a. absurd a))
first_lowered g xs k low ks lows one all v (next_value u us) = ((λ a. ((one v u).0 a.0, (all v us).0 a.1)), (λ h a. ((one v u).1 h a.0, (all v us).1 h a.1)))

-- ---- forms one by one

-- with what is made of those behind, what was made is that of all
abbrev pub AreMade : KoreSignature → List SortedName → List Skeleton → ℕ → List Skeleton → Type 0
AreMade g xs ks i made = (rest : List Form) → AreLowered g xs (forms_of (map skeleton_view (drop i ks))) (forms_of rest) → AreLowered g xs (forms_of (map skeleton_view ks)) (forms_of (map skeleton_view made ++ rest))

pub made_begins : (g : KoreSignature) (xs : List SortedName) (ks : List Skeleton) → AreMade g xs ks 0 []
made_begins g xs ks rest a = a

seen_with : (made : List Skeleton) (low : Skeleton) (rest : List Form) → map skeleton_view (made ++ low ∷ []) ++ rest ≡ map skeleton_view made ++ skeleton_view low ∷ rest
seen_with [] low rest = refl
seen_with (x ∷ made) low rest = ap (λ fs. skeleton_view x ∷ fs) (seen_with made low rest)

pub made_goes_on : (g : KoreSignature) (xs : List SortedName) (ks : List Skeleton) (i : ℕ) (k low : Skeleton) (made : List Skeleton) → i < length ks → k ≡ get_or ks i k → IsLowered g xs (skeleton_view k) (skeleton_view low) → AreMade g xs ks i made → AreMade g xs ks (i + 1) (made ++ low ∷ [])
made_goes_on g xs ks i k low made h e one before rest a =
    subst (λ fs. AreLowered g xs (forms_of (map skeleton_view ks)) (forms_of fs)) (sym (seen_with made low rest))
    (before (skeleton_view low ∷ rest)
    (subst (λ js. AreLowered g xs (forms_of (map skeleton_view js)) (forms_of (skeleton_view low ∷ rest))) (sym (one_left ks i k h e))
    (first_lowered g xs (skeleton_view k) (skeleton_view low) (forms_of (map skeleton_view (drop (i + 1) ks))) (forms_of rest) one a)))

without_more : (fs : List Form) → fs ++ [] ≡ fs
without_more [] = refl
without_more (f ∷ fs) = ap (λ gs. f ∷ gs) (without_more fs)

pub made_ends : (g : KoreSignature) (xs : List SortedName) (ks : List Skeleton) (i : ℕ) (made : List Skeleton) → length ks ≤ i → AreMade g xs ks i made → AreLowered g xs (forms_of (map skeleton_view ks)) (forms_of (map skeleton_view made))
made_ends g xs ks i made past before =
    subst (λ fs. AreLowered g xs (forms_of (map skeleton_view ks)) (forms_of fs)) (without_more (map skeleton_view made))
    (before [] (subst (λ js. AreLowered g xs (forms_of (map skeleton_view js)) no_forms) (sym (none_left ks i past)) (none_lowered g xs)))

-- ---- foreign rules

-- the left side of a foreign rule
pub foreign_lowered : (t : Theory) (place : ℕ) (g : KoreSignature) (k low : Skeleton) → g ≡ t.signature → IsForeignAt t place k → IsLowered g (form_variables (skeleton_view k)) (skeleton_view k) (skeleton_view low) → IsForeignAt t place low
foreign_lowered t place g k low e f is = record {
  rule = f.rule;
  at = f.at;
  left = f.left;
  body = f.body;
  stands = λ u sorted. (
    (λ a. (f.stands u sorted).0 (a.0, (here a.0 u).0 a.1)),
    (λ i. let a = (f.stands u sorted).1 i in (a.0, (here a.0 u).1 (have_sorts t.signature a.0 (skeleton_view k) u a.1) a.1)),
  );
}
  where
    here : IsLowered t.signature (form_variables (skeleton_view k)) (skeleton_view k) (skeleton_view low)
    here = subst (λ h. IsLowered h (form_variables (skeleton_view k)) (skeleton_view k) (skeleton_view low)) e is
