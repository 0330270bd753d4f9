-- The fault that is computed of two sides is their first.
use Rattle.std.proofs.Common.{◌≡◌, refl, sym, ap, subst, ◌∙◌, Bool, true, false, List, [], ◌∷◌, Option, Some, None, if◌then◌else◌}
use Rattle.std.specs.List.{filter}
use Rattle.std.specs.Option.{option_map, is_some}
use Rattle.kp_kore.specs.Syntax.{Text, KoreSort, KorePattern, variable, literal, application}
use Rattle.kp_kore.specs.Parts.{is_term}
use Rattle.kp_kore.specs.Signature.{KoreSignature}
use Rattle.kp_kore.specs.Sorting.{sort_of_term}
use Rattle.kp_kore.specs.Instance.{conjuncts, conjoined_terms}
use Rattle.kp_kore.specs.Rules.{only_one, under_binders}
use Rattle.kp_kore.specs.Sides.{HasOneTerm, HaveOneTermEach, first_unclear}
use Rattle.kp_kore.proofs.SameLemmas.{sorts_equal-Decides}
use Rattle.kp_signature.specs.Places.{own_sort}
use Rattle.kp_sides.specs.Decided.{sort_of_one, term_sort, are_one_sort, name_fault, term_fault, behind, first_fault}
use Rattle.kp_sides.specs.Sides.{SidesFault, idle, other_terms, unclear_name, idle_binder, IsFirstFault}

-- ---- the sort of a side's one term

own_of_term : (g : KoreSignature) (t : KorePattern) → is_term t ≡ true → own_sort g t ≡ sort_of_term g t
own_of_term g (variable x s) h = refl
own_of_term g (literal s text) h = refl
own_of_term g (application f ss ps) h = refl
own_of_term g _ h = absurd (cc)

-- what a filter keeps passes its test
first_kept : {X : Type 0} (test : X → Bool) (xs : List X) (t : X) (ts : List X) → filter test xs ≡ t ∷ ts → test t ≡ true
first_kept test [] t ts e = absurd (cc)
first_kept test (x ∷ xs) t ts e = at (test x) refl e (first_kept test xs t ts)
  where
    at : (b : Bool) → test x ≡ b → (if b then x ∷ filter test xs else filter test xs) ≡ t ∷ ts → (filter test xs ≡ t ∷ ts → test t ≡ true) → test t ≡ true
    at true is same later = subst (λ y. test y ≡ true) (cc same) is
    at false is same later = later same

only_some : (ts : List KorePattern) (t : KorePattern) → only_one ts ≡ Some t → ts ≡ t ∷ []
only_some [] t e = absurd (cc)
only_some (p ∷ []) t e = ap (λ (q : KorePattern). q ∷ []) (cc e)
only_some (p ∷ q ∷ ps) t e = absurd (cc)

sort_has : (g : KoreSignature) (p : KorePattern) (s : KoreSort) → term_sort g p ≡ Some s → HasOneTerm g s p
sort_has g p s = at (only_one (conjoined_terms p)) refl
  where
    at : (o : Option KorePattern) → only_one (conjoined_terms p) ≡ o → sort_of_one g o ≡ Some s → HasOneTerm g s p
    at (Some t) is e =
        let alone = only_some (conjoined_terms p) t is in
        record { term = t; alone = alone; is_sort = sym (own_of_term g t (first_kept is_term (conjuncts p) t [] alone)) ∙ e }
    at None is e = absurd (cc)

has_sort : (g : KoreSignature) (p : KorePattern) (s : KoreSort) → HasOneTerm g s p → term_sort g p ≡ Some s
has_sort g p s h = ap (λ ts. sort_of_one g (only_one ts)) h.alone ∙ (own_of_term g h.term (first_kept is_term (conjuncts p) h.term [] h.alone) ∙ h.is_sort)

-- ---- sides of one sort

one_each : (g : KoreSignature) (a c : KorePattern) → are_one_sort (term_sort g a) (term_sort g (under_binders c)) ≡ true → HaveOneTermEach g a c
one_each g a c = at (term_sort g a) (term_sort g (under_binders c)) refl refl
  where
    at : (x y : Option KoreSort) → term_sort g a ≡ x → term_sort g (under_binders c) ≡ y → are_one_sort x y ≡ true → HaveOneTermEach g a c
    at (Some s) (Some t) e f h = (s, sort_has g a s e, sort_has g (under_binders c) s (f ∙ ap Some (sym ((sorts_equal-Decides s t).0 h))))
    at (Some s) None e f h = absurd (cc)
    at None y e f h = absurd (cc)

not_one_each : (g : KoreSignature) (a c : KorePattern) → are_one_sort (term_sort g a) (term_sort g (under_binders c)) ≡ false → ¬ HaveOneTermEach g a c
not_one_each g a c h each =
    let s = each.0 in
    let same : are_one_sort (term_sort g a) (term_sort g (under_binders c)) ≡ true =
    ap (λ x. are_one_sort x (term_sort g (under_binders c))) (has_sort g a s each.1) ∙ (ap (are_one_sort (Some s)) (has_sort g (under_binders c) s each.2) ∙ (sorts_equal-Decides s s).1 refl) in
    let both : true ≡ false = sym same ∙ h in
    absurd (cc both)

-- ---- the first fault

behind_terms : (g : KoreSignature) (a c : KorePattern) → idle_binder c ≡ None → HaveOneTermEach g a c → IsFirstFault g a c (name_fault a c)
behind_terms g a c none each = at (first_unclear a c) refl
  where
    at : (o : Option Text) → first_unclear a c ≡ o → IsFirstFault g a c (option_map unclear_name o)
    at (Some n) is = (none, each, is)
    at None is = record { none_idle = none; one_term_each = each; clear = is }

behind_binders : (g : KoreSignature) (a c : KorePattern) → idle_binder c ≡ None → IsFirstFault g a c (term_fault g a c)
behind_binders g a c none = at (are_one_sort (term_sort g a) (term_sort g (under_binders c))) refl
  where
    at : (b : Bool) → are_one_sort (term_sort g a) (term_sort g (under_binders c)) ≡ b → IsFirstFault g a c (if b then name_fault a c else Some other_terms)
    at true is = behind_terms g a c none (one_each g a c is)
    at false is = (none, not_one_each g a c is)

is_first : (g : KoreSignature) (a c : KorePattern) → IsFirstFault g a c (first_fault g a c)
is_first g a c = at (idle_binder c) refl
  where
    at : (o : Option Text) → idle_binder c ≡ o → IsFirstFault g a c (behind o (term_fault g a c))
    at (Some n) is = is
    at None is = behind_binders g a c is

pub first_told : (g : KoreSignature) (a c : KorePattern) (o : Option SidesFault) → o ≡ first_fault g a c → IsFirstFault g a c o
first_told g a c o e = subst (IsFirstFault g a c) (sym e) (is_first g a c)

-- ---- one term

pub one_is_there : {A : Type 0} (f : A → KorePattern) (o : Option A) (k : Option KorePattern) → option_map f o ≡ k → is_some o ≡ is_some k
one_is_there f None k e = ap is_some e
one_is_there f (Some a) k e = ap is_some e

-- ---- the first fault, step by step

pub idle_first : (g : KoreSignature) (a c : KorePattern) (x : Option Text) (n : Text) → x ≡ idle_binder c → x ≡ Some n → IsFirstFault g a c (Some (idle n))
idle_first g a c x n e h = sym e ∙ h

pub behind_none : (g : KoreSignature) (a c : KorePattern) (x : Option Text) (o : Option SidesFault) → x ≡ idle_binder c → x ≡ None → o ≡ term_fault g a c → IsFirstFault g a c o
behind_none g a c x o e h told = first_told g a c o (told ∙ ap (λ y. behind y (term_fault g a c)) (sym h ∙ e))
