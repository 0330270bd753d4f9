-- The variables of a left side that were tested, one by one.
use Rattle.std.proofs.Common.{◌≡◌, sym, ◌∙◌, subst, ap, ℕ, ◌+◌, ◌<◌, ◌≤◌, Bool, true, List, [], ◌∷◌, ◌++◌, map, length, get_or, drop, Some}
use Rattle.std.specs.List.{AllByRecursion}
use Rattle.std.proofs.lemmas.List.{drop_more, drop_all}
use Rattle.kp_kore.specs.Syntax.{Text, KoreSort}
use Rattle.kp_kore.specs.Parts.{SortedName}
use Rattle.kp_kore.specs.Signature.{KoreSignature, Head, is_below, is_head}
use Rattle.kp_symbolic.specs.Terms.{SymbolicTerm, unknown, Replaced, replacement_for}
use Rattle.kp_symbolic.specs.WellFormed.{IsWellSorted, AreWellPlaced}
use Rattle.kp_symbolic.specs.Folding.{term_for}
use Rattle.kp_symbolic.proofs.Distribution.{all_both, all_first, all_second}
use Rattle.kp_rules.specs.Skeletons.{Form, one_of, built, skeleton_view, forms_of}
use Rattle.kp_rules.specs.declared.skeleton.Skeleton.{Skeleton}
use Rattle.kp_case_laws.specs.Parts.{StatePart}
use Rattle.kp_case_laws.specs.Courses.{IsTermOf, IsBoundTo, form_variables, all_form_variables}
use Rattle.kp_case_laws.specs.Rows.{IsOfHead}
use Rattle.kp_unify.proofs.PlacedLemmas.{placed_by_test}

inside : {t u : SymbolicTerm} → Some t ≡ Some u → t ≡ u
inside e = cc

-- the term that is found for the variable has its sort
pub bound_placed : (g : KoreSignature) (p : StatePart) (bs : List Replaced) (x : SortedName) (t : SymbolicTerm) (b : Bool) → replacement_for bs x.name ≡ Some t → ((y : SortedName) → t ≡ unknown y → b ≡ is_below g.subsorts y.sort x.sort) → ((h : Head) → IsOfHead g t h → b ≡ is_head g x.sort h) → b ≡ true →
    IsBoundTo g p bs x → AreWellPlaced g bs (x ∷ [])
bound_placed g p bs x t b found v h e k =
    let same : k.term ≡ t = inside (sym k.bound ∙ found) in
    let sorted : IsWellSorted g x.sort t = placed_by_test g p.state.variables x.sort t b v h (subst (λ u. IsTermOf g p.state.variables u) same k.of_sort.term) e in
    (subst (λ o. IsWellSorted g x.sort (term_for x o)) (sym found) sorted, tt)

abbrev Placed : KoreSignature → List Replaced → SortedName → Type 0
Placed g bs x = IsWellSorted g x.sort (term_for x (replacement_for bs x.name))

pub variable_placed : (g : KoreSignature) (p : StatePart) (bs : List Replaced) (f : Form) (x : Text) (s : KoreSort) (n : Text) → f ≡ one_of x s → n ≡ x → (IsBoundTo g p bs (record { name = n; sort = s }) → AreWellPlaced g bs (record { name = n; sort = s } ∷ [])) →
    AllByRecursion (IsBoundTo g p bs) (form_variables f) → AreWellPlaced g bs (form_variables f)
variable_placed g p bs f x s n e d k b =
    let here = subst (λ h. AllByRecursion (IsBoundTo g p bs) (form_variables h)) e b in
    subst (λ h. AreWellPlaced g bs (form_variables h)) (sym e)
    (subst (λ m. AreWellPlaced g bs (record { name = m; sort = s } ∷ [])) d (k (subst (λ m. IsBoundTo g p bs (record { name = m; sort = s })) (sym d) here.0)))

-- ---- members

front : (i : ℕ) (xs : List Skeleton) (x : Skeleton) → i < length xs → x ≡ get_or xs i x → drop i xs ≡ x ∷ drop (i + 1) xs
front i xs x h e = drop_more xs i x h ∙ ap (λ y. y ∷ drop (i + 1) xs) (sym e)

abbrev variables_of : List Skeleton → List SortedName
variables_of xs = all_form_variables (forms_of (map skeleton_view xs))

pub member_further : (g : KoreSignature) (p : StatePart) (bs : List Replaced) (i : ℕ) (xs : List Skeleton) (x : Skeleton) → i < length xs → x ≡ get_or xs i x →
    (AllByRecursion (IsBoundTo g p bs) (form_variables (skeleton_view x)) → AreWellPlaced g bs (form_variables (skeleton_view x))) →
    AllByRecursion (IsBoundTo g p bs) (variables_of (drop i xs)) → (AreWellPlaced g bs (variables_of (drop i xs)) → AreWellPlaced g bs (variables_of xs)) →
    AllByRecursion (IsBoundTo g p bs) (variables_of (drop (i + 1) xs)) × (AreWellPlaced g bs (variables_of (drop (i + 1) xs)) → AreWellPlaced g bs (variables_of xs))
member_further g p bs i xs x h e one bound k =
    let here = form_variables (skeleton_view x) in
    let rest = variables_of (drop (i + 1) xs) in
    let both : AllByRecursion (IsBoundTo g p bs) (here ++ rest) = subst (λ ys. AllByRecursion (IsBoundTo g p bs) (variables_of ys)) (front i xs x h e) bound in (
      all_second (IsBoundTo g p bs) here rest both,
      (λ w. k (subst (λ ys. AreWellPlaced g bs (variables_of ys)) (sym (front i xs x h e))
          (all_both (Placed g bs) here rest (one (all_first (IsBoundTo g p bs) here rest both)) w))),
    )

pub built_placed : (g : KoreSignature) (p : StatePart) (bs : List Replaced) (f : Form) (c : Text) (ks ms : List Skeleton) → f ≡ built c (forms_of (map skeleton_view ks)) → ms ≡ ks → (AllByRecursion (IsBoundTo g p bs) (variables_of ms) → AreWellPlaced g bs (variables_of ms)) →
    AllByRecursion (IsBoundTo g p bs) (form_variables f) → AreWellPlaced g bs (form_variables f)
built_placed g p bs f c ks ms e d k b =
    let here = subst (λ h. AllByRecursion (IsBoundTo g p bs) (form_variables h)) e b in
    subst (λ h. AreWellPlaced g bs (form_variables h)) (sym e)
    (subst (λ xs. AreWellPlaced g bs (variables_of xs)) d (k (subst (λ xs. AllByRecursion (IsBoundTo g p bs) (variables_of xs)) (sym d) here)))

pub members_done : (g : KoreSignature) (bs : List Replaced) (i : ℕ) (xs : List Skeleton) → length xs ≤ i → (AreWellPlaced g bs (variables_of (drop i xs)) → AreWellPlaced g bs (variables_of xs)) → AreWellPlaced g bs (variables_of xs)
members_done g bs i xs past k = k (subst (λ ys. AreWellPlaced g bs (variables_of ys)) (sym (drop_all i xs past)) tt)
