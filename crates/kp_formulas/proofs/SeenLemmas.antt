-- How terms are seen, and what their equalities and calls open to.
use Rattle.std.proofs.Common.{◌≡◌, refl, sym, ap, ap₂, ◌∙◌, ℕ, zero, suc, ◌+◌, ◌<◌, ◌≤◌, Bool, true, false, not, ◌&&◌, List, [], ◌∷◌, ◌++◌, length, get_or, drop, map, subst, Option, Some, None, arith}
use Rattle.std.specs.Prelude.{if◌then◌else◌}
use Rattle.std.proofs.lemmas.List.{append-nil}
use Rattle.std.specs.Bool.{beq}
use Rattle.std.specs.Str.{bytes_eq}
use Rattle.kp_compile.specs.Spelled.{places_of}
use Rattle.kp_kore.specs.Syntax.{Text, KoreSort, KoreSorts, no_sorts, next_sort}
use Rattle.kp_kore.specs.Hooks.{Comparison, Connective, both, either, implies, same as same_truth, other, Hook, whole_arithmetic, whole_comparison, truth_connective, truth_negation, values_equal, values_different}
use Rattle.kp_kore.specs.Signature.{KoreSignature, interpretation, is_truth_sort}
use Rattle.kp_kore.specs.View.{sort_view, sorts_view}
use Rattle.kp_kore.specs.declared.sort.Sort.{Sort}
use Rattle.kp_kore.specs.Value.{Value, whole, truth, token, constructed, Values, no_values, next_value}
use Rattle.kp_symbolic.specs.Terms.{SymbolicTerm, unknown, offset, known, headed, SymbolicTerms, no_terms, next_term}
use Rattle.kp_symbolic.specs.Formulas.{Formula, Formulas, no_formulas, next_formula}
use Rattle.kp_symbolic.specs.States.{Literal}
use Rattle.kp_symbolic.specs.Alike.{terms_same}
use Rattle.kp_symbolic.specs.Folding.{sum_of}
use Rattle.kp_symbolic.specs.Opening.{all_if, fixed, fixed_or, is_never, unconstructed, compared_at_once, is_kept_truth, Seen, seen, Seens, none_seen, next_seen, asked, opened_agreement, opened_truths, opened_sides, sorts_of_members, opened_seen, opened_members, opened_call, seen_value, seen_values, seen_term, is_true, seen_terms, equality_fact}
use Rattle.kp_symbolic.specs.View.{term_view, terms_of}
use Rattle.kp_symbolic.specs.declared.term.Term.{Term}
use Rattle.kp_formulas.specs.Seen.{told, constructor_seen, members_seen, truth_known, known_terms, known_members, members_in, connected_by, opened_constructed}
use Rattle.kp_formulas.specs.FormulaView.{formulas_of, formula_list, formula_view}
use Rattle.kp_formulas.specs.declared.formula.Formula.{Formula as CodeFormula}

abbrev term_seen : Seen → SymbolicTerm
term_seen (seen t p c ms) = t

term_of_value : (u : Value) → term_seen (seen_value u) ≡ known u
term_of_value (whole n) = refl
term_of_value (truth b) = refl
term_of_value (token s t) = refl
term_of_value (constructed c us) = refl

term_is_seen : (g : KoreSignature) (t : SymbolicTerm) → term_seen (seen_term g t) ≡ t
term_is_seen g (unknown x) = refl
term_is_seen g (offset x c) = refl
term_is_seen g (known u) = term_of_value u
term_is_seen g (headed f ts) = refl

-- ---- members

known_are_seen : (g : KoreSignature) (us : Values) → seen_terms g (terms_of (known_terms us)) ≡ seen_values us
known_are_seen g no_values = refl
known_are_seen g (next_value u us) = ap (next_seen (seen_value u)) (known_are_seen g us)

value_members : (g : KoreSignature) (u : Value) → seen_terms g (terms_of (known_members u)) ≡ members_seen (seen_value u)
value_members g (constructed c us) = known_are_seen g us
value_members g (whole n) = refl
value_members g (truth b) = refl
value_members g (token s t) = refl

pub members_are_seen : (g : KoreSignature) (t : SymbolicTerm) → seen_terms g (members_in t) ≡ members_seen (seen_term g t)
members_are_seen g (unknown x) = refl
members_are_seen g (offset x c) = refl
members_are_seen g (known u) = value_members g u
members_are_seen g (headed f ts) = refl

-- ---- equalities

sides : (g : KoreSignature) (alone b : Bool) (s : KoreSort) (kept : Formula Literal) (m n : Seen) → opened_seen g alone b s kept m n
    ≡ (if terms_same (term_seen m) (term_seen n) then fixed b else if is_truth_sort g s then opened_truths g alone b kept m n
    else opened_sides g b kept (term_seen m) (term_seen n) (constructor_seen m) (constructor_seen n) (opened_members g (alone && b) b (sorts_of_members g (constructor_seen m)) (members_seen m) (members_seen n)))
sides g alone b s kept (seen t p c ms) (seen u q d ns) = refl

pub sides_of_terms : (g : KoreSignature) (alone b : Bool) (s : KoreSort) (kept : Formula Literal) (t u : SymbolicTerm) → opened_seen g alone b s kept (seen_term g t) (seen_term g u)
    ≡ (if terms_same t u then fixed b else if is_truth_sort g s then opened_truths g alone b kept (seen_term g t) (seen_term g u) else opened_constructed g alone b kept t u)
sides_of_terms g alone b s kept t u = sides g alone b s kept (seen_term g t) (seen_term g u)
    ∙ ap₂ (λ x y. if terms_same x y then fixed b else if is_truth_sort g s then opened_truths g alone b kept (seen_term g t) (seen_term g u)
    else opened_sides g b kept x y (constructor_seen (seen_term g t)) (constructor_seen (seen_term g u)) (opened_members g (alone && b) b (sorts_of_members g (constructor_seen (seen_term g t))) (members_seen (seen_term g t)) (members_seen (seen_term g u)))) (term_is_seen g t) (term_is_seen g u)

if_true : {A : Type 0} (c : Bool) (x y : A) → c ≡ true → x ≡ (if c then x else y)
if_true true x y e = refl
if_true false x y e = absurd (cc)

if_false : {A : Type 0} (c : Bool) (x y : A) → c ≡ false → y ≡ (if c then x else y)
if_false true x y e = absurd (cc)
if_false false x y e = refl

pub same_sides : (g : KoreSignature) (alone b : Bool) (s : KoreSort) (kept : Formula Literal) (t u : SymbolicTerm) → terms_same t u ≡ true → fixed b ≡ opened_seen g alone b s kept (seen_term g t) (seen_term g u)
same_sides g alone b s kept t u e = if_true (terms_same t u) _ _ e ∙ sym (sides_of_terms g alone b s kept t u)

pub truth_sides : (g : KoreSignature) (alone b : Bool) (s : KoreSort) (kept : Formula Literal) (t u : SymbolicTerm) → terms_same t u ≡ false → is_truth_sort g s ≡ true → opened_truths g alone b kept (seen_term g t) (seen_term g u) ≡ opened_seen g alone b s kept (seen_term g t) (seen_term g u)
truth_sides g alone b s kept t u e d = if_true (is_truth_sort g s) _ _ d ∙ if_false (terms_same t u) _ _ e ∙ sym (sides_of_terms g alone b s kept t u)

pub other_sides : (g : KoreSignature) (alone b : Bool) (s : KoreSort) (kept : Formula Literal) (t u : SymbolicTerm) → terms_same t u ≡ false → is_truth_sort g s ≡ false → opened_constructed g alone b kept t u ≡ opened_seen g alone b s kept (seen_term g t) (seen_term g u)
other_sides g alone b s kept t u e d = if_false (is_truth_sort g s) _ _ d ∙ if_false (terms_same t u) _ _ e ∙ sym (sides_of_terms g alone b s kept t u)

truth_on_the_right : (g : KoreSignature) (alone b : Bool) (kept : Formula Literal) (m n : Seen) (a : Bool) → truth_known (term_seen n) ≡ Some a → opened_truths g alone b kept m n ≡ told alone (beq a b) kept m
truth_on_the_right g alone b kept (seen t p c ms) (seen (known (truth d)) q e ns) a h = let k : d ≡ a = cc in ap (λ x. p alone (beq x b) kept) k
truth_on_the_right g alone b kept m (seen u q e ns) a h = absurd (cc)

truth_on_the_left : (g : KoreSignature) (alone b : Bool) (kept : Formula Literal) (m n : Seen) (a : Bool) → truth_known (term_seen n) ≡ None → truth_known (term_seen m) ≡ Some a → opened_truths g alone b kept m n ≡ told alone (beq a b) kept n
truth_on_the_left g alone b kept (seen t p c ms) (seen (known (truth e)) q d ns) a h k = absurd (cc)
truth_on_the_left g alone b kept (seen (known (truth e)) p c ms) (seen u q d ns) a h k = let i : e ≡ a = cc in ap (λ x. q alone (beq x b) kept) i
truth_on_the_left g alone b kept (seen t p c ms) (seen u q d ns) a h k = absurd (cc)

no_truth : (g : KoreSignature) (alone b : Bool) (kept : Formula Literal) (m n : Seen) → truth_known (term_seen n) ≡ None → truth_known (term_seen m) ≡ None →
    opened_truths g alone b kept m n ≡ (if alone && b && is_kept_truth (term_seen m) (term_seen n) then kept else opened_agreement g b m n)
no_truth g alone b kept (seen t p c ms) (seen (known (truth e)) q d ns) h k = absurd (cc)
no_truth g alone b kept (seen (known (truth e)) p c ms) (seen u q d ns) h k = absurd (cc)
no_truth g alone b kept (seen t p c ms) (seen u q d ns) h k = refl

pub right_truth : (g : KoreSignature) (alone b : Bool) (kept : Formula Literal) (t u : SymbolicTerm) (a : Bool) → truth_known u ≡ Some a → told alone (beq a b) kept (seen_term g t) ≡ opened_truths g alone b kept (seen_term g t) (seen_term g u)
right_truth g alone b kept t u a h = sym (truth_on_the_right g alone b kept (seen_term g t) (seen_term g u) a (ap truth_known (term_is_seen g u) ∙ h))

pub left_truth : (g : KoreSignature) (alone b : Bool) (kept : Formula Literal) (t u : SymbolicTerm) (a : Bool) → truth_known u ≡ None → truth_known t ≡ Some a → told alone (beq a b) kept (seen_term g u) ≡ opened_truths g alone b kept (seen_term g t) (seen_term g u)
left_truth g alone b kept t u a h k = sym (truth_on_the_left g alone b kept (seen_term g t) (seen_term g u) a (ap truth_known (term_is_seen g u) ∙ h) (ap truth_known (term_is_seen g t) ∙ k))

grouped : (a b c : Bool) → ((a && b) && c) ≡ (a && b && c)
grouped true b c = refl
grouped false b c = refl

neither_truth : (g : KoreSignature) (alone b : Bool) (kept : Formula Literal) (t u : SymbolicTerm) → truth_known u ≡ None → truth_known t ≡ None →
    (if alone && b && is_kept_truth t u then kept else opened_agreement g b (seen_term g t) (seen_term g u)) ≡ opened_truths g alone b kept (seen_term g t) (seen_term g u)
neither_truth g alone b kept t u h k = sym (no_truth g alone b kept (seen_term g t) (seen_term g u) (ap truth_known (term_is_seen g u) ∙ h) (ap truth_known (term_is_seen g t) ∙ k)
    ∙ ap₂ (λ x y. if alone && b && is_kept_truth x y then kept else opened_agreement g b (seen_term g t) (seen_term g u)) (term_is_seen g t) (term_is_seen g u))

pub kept_truth : (g : KoreSignature) (alone b : Bool) (kept : Formula Literal) (t u : SymbolicTerm) → truth_known u ≡ None → truth_known t ≡ None → ((alone && b) && is_kept_truth t u) ≡ true → kept ≡ opened_truths g alone b kept (seen_term g t) (seen_term g u)
kept_truth g alone b kept t u h k e = if_true (alone && b && is_kept_truth t u) _ _ (sym (grouped alone b (is_kept_truth t u)) ∙ e) ∙ neither_truth g alone b kept t u h k

pub agreeing_truths : (g : KoreSignature) (alone b : Bool) (kept : Formula Literal) (t u : SymbolicTerm) → truth_known u ≡ None → truth_known t ≡ None → ((alone && b) && is_kept_truth t u) ≡ false → opened_agreement g b (seen_term g t) (seen_term g u) ≡ opened_truths g alone b kept (seen_term g t) (seen_term g u)
agreeing_truths g alone b kept t u h k e = if_false (alone && b && is_kept_truth t u) _ _ (sym (grouped alone b (is_kept_truth t u)) ∙ e) ∙ neither_truth g alone b kept t u h k

by_constructors : (g : KoreSignature) (alone b : Bool) (kept : Formula Literal) (t u : SymbolicTerm) (o p : Option Text) → constructor_seen (seen_term g t) ≡ o → constructor_seen (seen_term g u) ≡ p →
    opened_constructed g alone b kept t u ≡ opened_sides g b kept t u o p (opened_members g (alone && b) b (sorts_of_members g o) (members_seen (seen_term g t)) (members_seen (seen_term g u)))
by_constructors g alone b kept t u o p e d = ap₂ (λ x y. opened_sides g b kept t u x y (opened_members g (alone && b) b (sorts_of_members g x) (members_seen (seen_term g t)) (members_seen (seen_term g u)))) e d

pub one_constructor : (g : KoreSignature) (alone b : Bool) (kept : Formula Literal) (t u : SymbolicTerm) (c d : Text) → constructor_seen (seen_term g t) ≡ Some c → constructor_seen (seen_term g u) ≡ Some d → bytes_eq c d ≡ true →
    all_if b (opened_members g (alone && b) b (places_of g c) (members_seen (seen_term g t)) (members_seen (seen_term g u))) ≡ opened_constructed g alone b kept t u
one_constructor g alone b kept t u c d h k e = if_true (bytes_eq c d) _ _ e ∙ sym (by_constructors g alone b kept t u (Some c) (Some d) h k)

pub two_constructors : (g : KoreSignature) (alone b : Bool) (kept : Formula Literal) (t u : SymbolicTerm) (c d : Text) → constructor_seen (seen_term g t) ≡ Some c → constructor_seen (seen_term g u) ≡ Some d → bytes_eq c d ≡ false →
    fixed (not b) ≡ opened_constructed g alone b kept t u
two_constructors g alone b kept t u c d h k e = if_false (bytes_eq c d) _ _ e ∙ sym (by_constructors g alone b kept t u (Some c) (Some d) h k)

pub left_constructor : (g : KoreSignature) (alone b : Bool) (kept : Formula Literal) (t u : SymbolicTerm) (c : Text) → constructor_seen (seen_term g t) ≡ Some c → constructor_seen (seen_term g u) ≡ None →
    (if is_never g t u then fixed (not b) else kept) ≡ opened_constructed g alone b kept t u
left_constructor g alone b kept t u c h k = sym (by_constructors g alone b kept t u (Some c) None h k)

pub right_constructor : (g : KoreSignature) (alone b : Bool) (kept : Formula Literal) (t u : SymbolicTerm) (d : Text) → constructor_seen (seen_term g t) ≡ None → constructor_seen (seen_term g u) ≡ Some d →
    (if is_never g u t then fixed (not b) else kept) ≡ opened_constructed g alone b kept t u
right_constructor g alone b kept t u d h k = sym (by_constructors g alone b kept t u None (Some d) h k)

pub no_constructor : (g : KoreSignature) (alone b : Bool) (kept : Formula Literal) (t u : SymbolicTerm) → constructor_seen (seen_term g t) ≡ None → constructor_seen (seen_term g u) ≡ None →
    unconstructed g b kept t u ≡ opened_constructed g alone b kept t u
no_constructor g alone b kept t u h k = sym (by_constructors g alone b kept t u None None h k)

asked_seen : (g : KoreSignature) (alone b : Bool) (m : Seen) → asked g alone b m ≡ told alone b (is_true g b (term_seen m)) m
asked_seen g alone b (seen t p c ms) = refl

pub told_when_asked : (g : KoreSignature) (alone b : Bool) (t : SymbolicTerm) (kept : Formula Literal) → kept ≡ is_true g b t → told alone b kept (seen_term g t) ≡ asked g alone b (seen_term g t)
told_when_asked g alone b t kept e = ap (λ k. told alone b k (seen_term g t)) (e ∙ ap (is_true g b) (sym (term_is_seen g t))) ∙ sym (asked_seen g alone b (seen_term g t))

-- ---- members of both sides, one by one

one_member : (g : KoreSignature) (alone b : Bool) (s : KoreSort) (ss : KoreSorts) (m n : Seen) (ms ns : Seens) → opened_members g alone b (next_sort s ss) (next_seen m ms) (next_seen n ns)
    ≡ next_formula (opened_seen g alone b s (equality_fact b s (term_seen m) (term_seen n)) m n) (opened_members g alone b ss ms ns)
one_member g alone b s ss (seen t p c ms) (seen u q d ns) rest others = refl

-- the equality of two terms at a sort
abbrev pub member : KoreSignature → Bool → Bool → KoreSort → SymbolicTerm → SymbolicTerm → Formula Literal
member g alone b s t u = opened_seen g alone b s (equality_fact b s t u) (seen_term g t) (seen_term g u)

abbrev pub members_after : KoreSignature → Bool → Bool → List Sort → List Term → List Term → List (Formula Literal)
members_after g alone b ss ts us = formula_list (opened_members g alone b (sorts_view ss) (seen_terms g (terms_of (map term_view ts))) (seen_terms g (terms_of (map term_view us))))

first_member : (g : KoreSignature) (alone b : Bool) (s : Sort) (t u : Term) (ss : List Sort) (ts us : List Term) → members_after g alone b (s ∷ ss) (t ∷ ts) (u ∷ us) ≡ member g alone b (sort_view s) (term_view t) (term_view u) ∷ members_after g alone b ss ts us
first_member g alone b s t u ss ts us =
    ap formula_list (one_member g alone b (sort_view s) (sorts_view ss) (seen_term g (term_view t)) (seen_term g (term_view u)) (seen_terms g (terms_of (map term_view ts))) (seen_terms g (terms_of (map term_view us))))
    ∙ ap₂ (λ x y. opened_seen g alone b (sort_view s) (equality_fact b (sort_view s) x y) (seen_term g (term_view t)) (seen_term g (term_view u)) ∷ members_after g alone b ss ts us) (term_is_seen g (term_view t)) (term_is_seen g (term_view u))

next_members : (g : KoreSignature) (alone b : Bool) (ss : List Sort) (ts us : List Term) (i : ℕ) (s : Sort) (t u : Term) → i < length ss → i < length ts → i < length us → s ≡ get_or ss i s → t ≡ get_or ts i t → u ≡ get_or us i u →
    members_after g alone b (drop i ss) (drop i ts) (drop i us) ≡ member g alone b (sort_view s) (term_view t) (term_view u) ∷ members_after g alone b (drop (suc i) ss) (drop (suc i) ts) (drop (suc i) us)
next_members g alone b [] ts us i s t u h j k p q r = absurd (omega (arith, h))
next_members g alone b (a ∷ ss) [] us i s t u h j k p q r = absurd (omega (arith, j))
next_members g alone b (a ∷ ss) (m ∷ ts) [] i s t u h j k p q r = absurd (omega (arith, k))
next_members g alone b (a ∷ ss) (m ∷ ts) (n ∷ us) zero s t u h j k p q r = first_member g alone b a m n ss ts us
    ∙ ap (λ f. f ∷ members_after g alone b ss ts us) (let e = p in let d = q in let c = r in cc)
next_members g alone b (a ∷ ss) (m ∷ ts) (n ∷ us) (suc i) s t u h j k p q r = next_members g alone b ss ts us i s t u (omega (arith, h)) (omega (arith, j)) (omega (arith, k)) p q r

no_sorts_left : (g : KoreSignature) (alone b : Bool) (ms ns : Seens) → formula_list (opened_members g alone b no_sorts ms ns) ≡ []
no_sorts_left g alone b ms ns = refl

no_right_left : (g : KoreSignature) (alone b : Bool) (s : KoreSort) (ss : KoreSorts) (m : Seen) (ms : Seens) → formula_list (opened_members g alone b (next_sort s ss) (next_seen m ms) none_seen) ≡ []
no_right_left g alone b s ss (seen t p c is) ms = refl

nothing_right : (g : KoreSignature) (alone b : Bool) (ss : List Sort) (ts : List Term) → members_after g alone b ss ts [] ≡ []
nothing_right g alone b [] ts = refl
nothing_right g alone b (s ∷ ss) [] = refl
nothing_right g alone b (s ∷ ss) (t ∷ ts) = no_right_left g alone b (sort_view s) (sorts_view ss) (seen_term g (term_view t)) (seen_terms g (terms_of (map term_view ts)))

-- nothing is left of the sorts, or of one side
pub nothing_left : (g : KoreSignature) (alone b : Bool) (ss : List Sort) (ts us : List Term) (i : ℕ) → (i < length ts → i < length us → i < length ss → ⊥) → members_after g alone b (drop i ss) (drop i ts) (drop i us) ≡ []
nothing_left g alone b [] ts us zero n = refl
nothing_left g alone b [] ts us (suc i) n = refl
nothing_left g alone b (s ∷ ss) [] us zero n = refl
nothing_left g alone b (s ∷ ss) [] us (suc i) n = nothing_left_without g alone b (drop i ss) (drop (suc i) us)
  where
    nothing_left_without : (g : KoreSignature) (alone b : Bool) (ss : List Sort) (us : List Term) → members_after g alone b ss [] us ≡ []
    nothing_left_without g alone b [] us = refl
    nothing_left_without g alone b (s ∷ ss) us = refl
nothing_left g alone b (s ∷ ss) (t ∷ ts) [] zero n = no_right_left g alone b (sort_view s) (sorts_view ss) (seen_term g (term_view t)) (seen_terms g (terms_of (map term_view ts)))
nothing_left g alone b (s ∷ ss) (t ∷ ts) [] (suc i) n = nothing_right g alone b (drop i ss) (drop i ts)
nothing_left g alone b (s ∷ ss) (t ∷ ts) (u ∷ us) zero n = absurd (n (omega arith) (omega arith) (omega arith))
nothing_left g alone b (s ∷ ss) (t ∷ ts) (u ∷ us) (suc i) n = nothing_left g alone b ss ts us i (λ j k h. n (omega (arith, j)) (omega (arith, k)) (omega (arith, h)))

listed : (fs : Formulas Literal) → formulas_of (formula_list fs) ≡ fs
listed no_formulas = refl
listed (next_formula f fs) = ap (next_formula f) (listed fs)

-- formulas that are those of the members, as one
pub listed_parts : (g : KoreSignature) (alone b : Bool) (ss places : KoreSorts) (ms ns : Seens) (fs : List (Formula Literal)) → ss ≡ places → fs ≡ formula_list (opened_members g alone b ss ms ns) →
    all_if b (formulas_of fs) ≡ all_if b (opened_members g alone b places ms ns)
listed_parts g alone b ss places ms ns fs e h = ap (λ xs. all_if b (formulas_of xs)) h ∙ ap (all_if b) (listed (opened_members g alone b ss ms ns)) ∙ ap (λ xs. all_if b (opened_members g alone b xs ms ns)) e

-- one more of them
pub added_member : (made : List CodeFormula) (f : CodeFormula) (rest next all : List (Formula Literal)) → rest ≡ formula_view f ∷ next → map formula_view made ++ rest ≡ all → map formula_view (made ++ f ∷ []) ++ next ≡ all
added_member [] f rest next all e h = sym e ∙ h
added_member (m ∷ made) f rest next all e h = ap (λ xs. formula_view m ∷ xs) (added_member made f rest next (map formula_view made ++ rest) e refl) ∙ h

-- the last of them
pub ended : (xs ys zs : List (Formula Literal)) → ys ≡ [] → xs ++ ys ≡ zs → xs ≡ zs
ended xs ys zs e h = sym (append-nil xs) ∙ ap (λ r. xs ++ r) (sym e) ∙ h

pub next_place : (g : KoreSignature) (alone b : Bool) (ss : List Sort) (ts us : List Term) (i : ℕ) (s : Sort) (t u : Term) → i < length ss → i < length ts → i < length us → s ≡ get_or ss i s → t ≡ get_or ts i t → u ≡ get_or us i u →
    members_after g alone b (drop i ss) (drop i ts) (drop i us) ≡ member g alone b (sort_view s) (term_view t) (term_view u) ∷ members_after g alone b (drop (i + 1) ss) (drop (i + 1) ts) (drop (i + 1) us)
next_place g alone b ss ts us i s t u h j k p q r =
    let e : suc i ≡ i + 1 = omega arith in
    subst (λ n. members_after g alone b (drop i ss) (drop i ts) (drop i us) ≡ member g alone b (sort_view s) (term_view t) (term_view u) ∷ members_after g alone b (drop n ss) (drop n ts) (drop n us)) e
    (next_members g alone b ss ts us i s t u h j k p q r)

-- ---- calls

abbrev call_of : KoreSignature → KoreSorts → Hook → List Term → Bool → Bool → Formula Literal → Formula Literal
call_of g ss h ts alone b kept = opened_call g ss (interpretation h) (seen_terms g (terms_of (map term_view ts))) alone b kept

pub negation_of_one : (g : KoreSignature) (ss : KoreSorts) (alone b : Bool) (kept : Formula Literal) (ts : List Term) (t : Term) → length ts ≡ 1 → t ≡ get_or ts 0 t → asked g alone (not b) (seen_term g (term_view t)) ≡ call_of g ss truth_negation ts alone b kept
negation_of_one g ss alone b kept [] t n e = absurd (cc)
negation_of_one g ss alone b kept (a ∷ []) t n e = ap (λ x. asked g alone (not b) (seen_term g (term_view x))) e
negation_of_one g ss alone b kept (a ∷ c ∷ ts) t n e = absurd (cc)

pub negation_of_others : (g : KoreSignature) (ss : KoreSorts) (alone b : Bool) (kept : Formula Literal) (ts : List Term) → (length ts ≡ 1 → ⊥) → kept ≡ call_of g ss truth_negation ts alone b kept
negation_of_others g ss alone b kept [] n = refl
negation_of_others g ss alone b kept (a ∷ []) n = absurd (n refl)
negation_of_others g ss alone b kept (a ∷ c ∷ ts) n = refl

abbrev pub two_seen : KoreSignature → Term → Term → Seens
two_seen g t u = next_seen (seen_term g (term_view t)) (next_seen (seen_term g (term_view u)) none_seen)

pub are_two_seen : (g : KoreSignature) (ts : List Term) (t u : Term) → length ts ≡ 2 → t ≡ get_or ts 0 t → u ≡ get_or ts 1 u → two_seen g t u ≡ seen_terms g (terms_of (map term_view ts))
are_two_seen g [] t u n p q = absurd (cc)
are_two_seen g (a ∷ []) t u n p q = absurd (cc)
are_two_seen g (a ∷ b ∷ []) t u n p q = let e : t ≡ a = p in let d : u ≡ b = q in cc
are_two_seen g (a ∷ b ∷ c ∷ ts) t u n p q = absurd (cc)

compared_seen : (g : KoreSignature) (ss : KoreSorts) (o : Comparison) (m n : Seen) (alone b : Bool) (kept : Formula Literal) →
    opened_call g ss (interpretation (whole_comparison o)) (next_seen m (next_seen n none_seen)) alone b kept ≡ fixed_or (compared_at_once o (sum_of g (term_seen m)) (sum_of g (term_seen n))) b kept
compared_seen g ss o (seen t p c ms) (seen u q d ns) alone b kept = refl

pub compared_two : (g : KoreSignature) (ss : KoreSorts) (o : Comparison) (t u : Term) (alone b : Bool) (kept : Formula Literal) →
    fixed_or (compared_at_once o (sum_of g (term_view t)) (sum_of g (term_view u))) b kept ≡ opened_call g ss (interpretation (whole_comparison o)) (two_seen g t u) alone b kept
compared_two g ss o t u alone b kept = sym (compared_seen g ss o (seen_term g (term_view t)) (seen_term g (term_view u)) alone b kept
    ∙ ap₂ (λ x y. fixed_or (compared_at_once o (sum_of g x) (sum_of g y)) b kept) (term_is_seen g (term_view t)) (term_is_seen g (term_view u)))

pub connected_two : (g : KoreSignature) (ss : KoreSorts) (c : Connective) (m n : Seen) (alone b : Bool) (kept : Formula Literal) →
    connected_by g c alone b m n ≡ opened_call g ss (interpretation (truth_connective c)) (next_seen m (next_seen n none_seen)) alone b kept
connected_two g ss both m n alone b kept = refl
connected_two g ss either m n alone b kept = refl
connected_two g ss implies m n alone b kept = refl
connected_two g ss same_truth m n alone b kept = refl
connected_two g ss other m n alone b kept = refl

are_two : Seens → Bool
are_two (next_seen m (next_seen n none_seen)) = true
are_two _ = false

not_two : (g : KoreSignature) (ts : List Term) → (length ts ≡ 2 → ⊥) → are_two (seen_terms g (terms_of (map term_view ts))) ≡ false
unfolding are_two
not_two g [] n = refl
not_two g (t ∷ []) n = refl
not_two g (t ∷ u ∷ []) n = absurd (n refl)
not_two g (t ∷ u ∷ w ∷ ts) n = refl

kept_call : (g : KoreSignature) (ss : KoreSorts) (h : Hook) (ms : Seens) (alone b : Bool) (kept : Formula Literal) → are_two ms ≡ false → (h ≡ truth_negation → ⊥) → kept ≡ opened_call g ss (interpretation h) ms alone b kept
unfolding are_two
kept_call g ss truth_negation ms alone b kept k d = absurd (d refl)
kept_call g ss (truth_connective c) (next_seen m (next_seen n none_seen)) alone b kept k d = absurd (cc)
kept_call g ss (whole_comparison o) (next_seen m (next_seen n none_seen)) alone b kept k d = absurd (cc)
kept_call g ss values_equal (next_seen m (next_seen n none_seen)) alone b kept k d = absurd (cc)
kept_call g ss values_different (next_seen m (next_seen n none_seen)) alone b kept k d = absurd (cc)
kept_call g ss (whole_comparison o) none_seen alone b kept k d = refl
kept_call g ss (whole_comparison o) (next_seen (seen t p c ms) none_seen) alone b kept k d = refl
kept_call g ss (whole_comparison o) (next_seen (seen t p c ms) (next_seen (seen u q e ns) (next_seen m rest))) alone b kept k d = refl
kept_call g ss h ms alone b kept k d = refl

pub call_of_others : (g : KoreSignature) (ss : KoreSorts) (h : Hook) (ts : List Term) (alone b : Bool) (kept : Formula Literal) → (length ts ≡ 2 → ⊥) → (h ≡ truth_negation → ⊥) → kept ≡ call_of g ss h ts alone b kept
call_of_others g ss h ts alone b kept n d = kept_call g ss h (seen_terms g (terms_of (map term_view ts))) alone b kept (not_two g ts n) d
