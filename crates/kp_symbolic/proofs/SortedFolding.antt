-- A folded term is well-sorted, and so is one with terms in the place of its variables.
use Rattle.std.proofs.Common.{◌≡◌, refl, sym, ◌∙◌, ap, subst, ◌⊎◌, inl, inr, ℤ, pos, negsuc, neg_ℤ, ◌+ℤ◌, ℕ, ◌+◌, ◌-◌, ◌^◌, ◌<◌, ◌≤◌, Bool, true, false, not, ◌&&◌, cond, List, length, Option, Some, None, nat_le, arith}
use Rattle.std.specs.Prelude.{if◌then◌else◌, is_some, int_lt, FitsSigned, ◌==◌, codes}
use Rattle.std.specs.Int.{w128}
use Rattle.std.specs.Ordering.{int_eq}
use Rattle.std.specs.Str.{bytes_eq}
use Rattle.std.specs.Str.Parse.{signed_digits_value}
use Rattle.std.proofs.lemmas.Bool.{leb-true}
use Rattle.std.proofs.lemmas.Bool.Decides.{Decides-ltb, Decides-eqb}
use Rattle.kp_kore.specs.Syntax.{Text, KoreSort, KoreSorts, no_sorts, next_sort, KorePattern, KorePatterns, variable, literal, application, no_patterns, next_pattern, SymbolDeclaration}
use Rattle.kp_kore.specs.Hooks.{Arithmetic, addition, subtraction, Hook, whole_arithmetic, whole_comparison, truth_connective, truth_negation, values_equal, values_different}
use Rattle.kp_kore.specs.Parts.{SortedName, is_term, are_terms, free_variables, all_free_variables, sort_list, pattern_list}
use Rattle.kp_kore.specs.Signature.{KoreSignature, SymbolMeaning, injection, construction, interpretation, foreign, meaning_of, symbol_declared, alias_declared, is_injection, is_identity, is_constructor, is_plain, fitting_hook, fits_hook, are_two, are_one, is_integer_sort, is_boolean_sort, is_number_sort, is_truth_sort, IsBelow, itself}
use Rattle.kp_kore.specs.Sorting.{at_arguments, all_at_arguments, result_sort}
use Rattle.kp_kore.specs.Value.{Value, whole, truth, token, Values, no_values, next_value, HasSort, HaveSorts}
use Rattle.kp_kore.specs.Interpretation.{interpreted, no_meaning}
use Rattle.kp_kore.specs.Instance.{literal_value}
use Rattle.kp_kore.specs.Limits.{fits_number}
use Rattle.kp_kore.specs.Foreign.{none_within, has_foreign_head, is_foreign_meaning}
use Rattle.kp_kore.specs.Replies.{is_wide_value}
use Rattle.kp_kore.proofs.InstanceLemmas.{first_true, second_true}
use Rattle.kp_signature.specs.Places.{Place, own_sort, argument_sorts, argument_at, after}
use Rattle.kp_signature.specs.Verify.{first_fault, fault_at, arguments_fault, symbol_fault, injection_fault}
use Rattle.kp_signature.proofs.FaultLemmas.{nothing_earlier, nothing_later, keeps_rules, term_has_wanted_sort}
use Rattle.kp_signature.proofs.ApplicationLemmas.{as_many_arguments, goes_upwards, as_many_sorts, sorts_by}
use Rattle.kp_signature.proofs.InjLemmas.{inj_goes_across}
use Rattle.kp_signature.proofs.MeaningLemmas.{an_injection, an_interpretation, it_fits}
use Rattle.kp_signature.proofs.NumberLemmas.{number_value, truth_value}
use Rattle.kp_signature.proofs.SortedInstances.{term_is_sorted, none_among, none_in_first, none_in_others, same_rest}
use Rattle.kp_signature.proofs.OwnSorts.{profile_by, result_by}
use Rattle.kp_compile.proofs.Literals.{whole_literal}
use Rattle.kp_compile.specs.Spelled.{places_of, NumbersFit, AllNumbersFit}
use Rattle.kp_symbolic.specs.Terms.{SymbolicTerm, unknown, offset, known, headed, SymbolicTerms, no_terms, next_term, term_variables, all_term_variables, Replaced, replacement_for}
use Rattle.kp_symbolic.specs.WellFormed.{stands_in_terms, IsWellSorted, AreWellSorted, AreWellPlaced}
use Rattle.kp_symbolic.specs.Folding.{least_symbol, Sum, sum_of, can_be_added, summed, summed_call, with_first, values_known, only_term, made_construction, made_call, made, applied_term, term_for, folded, all_folded, under_symbol, replaced, all_replaced}
use Rattle.kp_symbolic.proofs.Distribution.{all_first, all_second}
use Rattle.kp_symbolic.proofs.CallOpening.{meaning_by}
use Rattle.kp_symbolic.proofs.Replacing.{least_is}
use Rattle.kp_symbolic.proofs.WellSorted.{IsPlainSymbol, plain_symbol, places_are, result_is, arguments_are, applied_has_sort, sorted_above, number_sort_is}

some_inside : {A : Type 0} {a b : A} → Some a ≡ Some b → a ≡ b
some_inside e = cc

-- ---- numbers of 128 bits

below_both : (n m k : ℕ) → k ≡ m + 1 → n ≤ m → n < k
below_both n m k e h = omega arith

pub fits_signed : (k : ℤ) → fits_number k ≡ true → FitsSigned w128 k
fits_signed (pos n) h = record { sfits = (Decides-ltb n (2 ^ 127)).0 h }
fits_signed (negsuc n) h = by (nat_le n (2 ^ 127 - 1)) refl h
  where
    by : (b : Bool) → nat_le n (2 ^ 127 - 1) ≡ b → b && true ≡ true → FitsSigned w128 (negsuc n)
    by true e k = record { sfits = below_both n (2 ^ 127 - 1) (2 ^ 127) refl (leb-true n (2 ^ 127 - 1) e) }
    by false e k = absurd (cc)

abbrev NumberOrTruth : KoreSignature → KoreSort → Type 0
NumberOrTruth g s = (is_number_sort g s ≡ true) ⊎ (is_truth_sort g s ≡ true)

hook_result : (g : KoreSignature) (h : Hook) (ss : KoreSorts) (s : KoreSort) → fits_hook g h ss s ≡ true → NumberOrTruth g s
hook_result g (whole_arithmetic a) ss s e = inl (second_true (are_two (is_number_sort g) ss) (is_number_sort g s) e)
hook_result g (whole_comparison c) ss s e = inr (second_true (are_two (is_number_sort g) ss) (is_truth_sort g s) e)
hook_result g (truth_connective c) ss s e = inr (second_true (are_two (is_truth_sort g) ss) (is_truth_sort g s) e)
hook_result g truth_negation ss s e = inr (second_true (are_one (is_truth_sort g) ss) (is_truth_sort g s) e)
hook_result g values_equal ss s e = inr (second_true (are_two (λ t. true) ss) (is_truth_sort g s) e)
hook_result g values_different ss s e = inr (second_true (are_two (λ t. true) ss) (is_truth_sort g s) e)

not_wide : (b : Bool) → not b ≡ false → b ≡ true
not_wide true e = refl
not_wide false e = absurd (cc)

result_fits : (g : KoreSignature) (s : KoreSort) (u : Value) → NumberOrTruth g s → HasSort g s u → is_wide_value u ≡ false → NumbersFit u
result_fits g s u (inl i) h w = let n = number_value g s u i h in subst NumbersFit (sym n.1) (fits_signed n.0 (not_wide (fits_number n.0) (subst (λ x. is_wide_value x ≡ false) n.1 w)))
result_fits g s u (inr i) h w = let b = truth_value g s u i h in subst NumbersFit (sym b.1) tt

-- ---- an application over well-sorted arguments

abbrev AreRightValues : KoreSignature → KoreSorts → Values → Type 0
AreRightValues g ss us = HaveSorts g ss us × AllNumbersFit us

next_right : (g : KoreSignature) (s : KoreSort) (ss : KoreSorts) (u : Value) (o : Option Values) (us : Values) → HasSort g s u → NumbersFit u → ((ws : Values) → o ≡ Some ws → AreRightValues g ss ws) → with_first (Some u) o ≡ Some us → AreRightValues g (next_sort s ss) us
next_right g s ss u (Some ws) us h f i e = let q : next_value u ws ≡ us = cc in subst (AreRightValues g (next_sort s ss)) q ((h, (i ws refl).0), (f, (i ws refl).1))
next_right g s ss u None us h f i e = absurd (cc)

known_right : (g : KoreSignature) (ss : KoreSorts) (ts : SymbolicTerms) (us : Values) → AreWellSorted g ss ts → values_known ts ≡ Some us → AreRightValues g ss us
known_right g no_sorts no_terms us w e = let q : no_values ≡ us = cc in subst (AreRightValues g no_sorts) q (tt, tt)
known_right g (next_sort s ss) (next_term (known u) ts) us w e = next_right g s ss u (values_known ts) us w.0.0 w.0.1 (λ ws. known_right g ss ts ws w.1) e
known_right g (next_sort s ss) (next_term (unknown x) ts) us w e = absurd (cc)
known_right g (next_sort s ss) (next_term (offset x c) ts) us w e = absurd (cc)
known_right g (next_sort s ss) (next_term (headed f vs) ts) us w e = absurd (cc)
known_right g no_sorts (next_term t ts) us w e = absurd w
known_right g (next_sort s ss) no_terms us w e = absurd w

call_itself : (g : KoreSignature) (f : Text) (ts : SymbolicTerms) (k : IsPlainSymbol g f) → stands_in_terms (meaning_of g f) ≡ true → AreWellSorted g (places_of g f) ts → IsWellSorted g k.declaration.result (headed f ts)
call_itself g f ts k i w = (i, (k.declaration.result, result_is g f no_sorts k, itself k.declaration.result), w)

at_constant : (g : KoreSignature) (s : KoreSort) (x : SortedName) (n : ℤ) (call : SymbolicTerm) (b d : Bool) → is_number_sort g x.sort ≡ true → x.sort ≡ s → (d ≡ true → can_be_added g n ≡ true) → IsWellSorted g s call → IsWellSorted g s (if b then unknown x else if d then offset x n else call)
at_constant g s x n call true d i e a w = subst (IsBelow g.subsorts x.sort) e (itself x.sort)
at_constant g s x n call false true i e a w = (i, a refl, subst (IsBelow g.subsorts x.sort) e (itself x.sort))
at_constant g s x n call false false i e a w = w

sum_sorted : (g : KoreSignature) (s : KoreSort) (o : Option Sum) (c : ℤ) (call : SymbolicTerm) → ((m : Sum) → o ≡ Some m → is_number_sort g m.variable.sort ≡ true) → is_number_sort g s ≡ true → IsWellSorted g s call → IsWellSorted g s (summed g o c call)
sum_sorted g s (Some m) c call q i w = at_constant g s m.variable (m.constant +ℤ c) call (int_eq (m.constant +ℤ c) (pos 0)) (can_be_added g (m.constant +ℤ c)) (q m refl) (some_inside (sym (number_sort_is g m.variable.sort (q m refl)) ∙ number_sort_is g s i)) (λ e. e) w
sum_sorted g s None c call q i w = w

sum_at : (g : KoreSignature) (x : SortedName) (c : ℤ) (m : Sum) (b : Bool) → (b ≡ true → is_number_sort g x.sort ≡ true) → (if b then Some (record { variable = x; constant = c }) else None) ≡ Some m → is_number_sort g m.variable.sort ≡ true
sum_at g x c m true q e = let y : x ≡ m.variable = cc in subst (λ z. is_number_sort g z.sort ≡ true) y (q refl)
sum_at g x c m false q e = absurd (cc)

sum_integer : (g : KoreSignature) (t : SymbolicTerm) (m : Sum) → sum_of g t ≡ Some m → is_number_sort g m.variable.sort ≡ true
sum_integer g (unknown x) m e = sum_at g x (pos 0) m (is_number_sort g x.sort) (λ i. i) e
sum_integer g (offset x c) m e = sum_at g x c m (is_number_sort g x.sort) (λ i. i) e
sum_integer g (known u) m e = absurd (cc)
sum_integer g (headed f ts) m e = absurd (cc)

summed_call_sorted : (g : KoreSignature) (s : KoreSort) (h : Hook) (ss : KoreSorts) (ts : SymbolicTerms) (call : SymbolicTerm) → fits_hook g h ss s ≡ true → IsWellSorted g s call → IsWellSorted g s (summed_call g h ts call)
summed_call_sorted g s (whole_arithmetic addition) ss (next_term t (next_term (known (whole c)) no_terms)) call e w = sum_sorted g s (sum_of g t) c call (sum_integer g t) (second_true (are_two (is_number_sort g) ss) (is_number_sort g s) e) w
summed_call_sorted g s (whole_arithmetic addition) ss (next_term (known (whole c)) (next_term t no_terms)) call e w = sum_sorted g s (sum_of g t) c call (sum_integer g t) (second_true (are_two (is_number_sort g) ss) (is_number_sort g s) e) w
summed_call_sorted g s (whole_arithmetic subtraction) ss (next_term t (next_term (known (whole c)) no_terms)) call e w = sum_sorted g s (sum_of g t) (neg_ℤ c) call (sum_integer g t) (second_true (are_two (is_number_sort g) ss) (is_number_sort g s) e) w
summed_call_sorted g s h ss ts call e w = w

by_width : (g : KoreSignature) (s : KoreSort) (call : SymbolicTerm) (u : Value) (b : Bool) → (b ≡ false → NumbersFit u) → HasSort g s u → IsWellSorted g s call → IsWellSorted g s (if b then call else known u)
by_width g s call u true f h w = w
by_width g s call u false f h w = (h, f refl)

construction_sorted : (g : KoreSignature) (f : Text) (ts : SymbolicTerms) (k : IsPlainSymbol g f) (o : Option Values) → meaning_of g f ≡ construction → AreWellSorted g (places_of g f) ts → ((us : Values) → o ≡ Some us → AreRightValues g (places_of g f) us) → IsWellSorted g k.declaration.result (made_construction f ts o)
construction_sorted g f ts k (Some us) m w i = (applied_has_sort g f us k construction m refl (i us refl).0, (i us refl).1)
construction_sorted g f ts k None m w i = call_itself g f ts k (ap stands_in_terms m) w

call_sorted : (g : KoreSignature) (h : Hook) (f : Text) (ts : SymbolicTerms) (k : IsPlainSymbol g f) (o : Option Values) → meaning_of g f ≡ interpretation h → fits_hook g h k.declaration.arguments k.declaration.result ≡ true → AreWellSorted g (places_of g f) ts → ((us : Values) → o ≡ Some us → AreRightValues g (places_of g f) us) → IsWellSorted g k.declaration.result (made_call g h f ts o)
call_sorted g h f ts k (Some us) m e w i =
    let q : HasSort g k.declaration.result (interpreted h us) = applied_has_sort g f us k (interpretation h) m refl (i us refl).0 in
    by_width g k.declaration.result (headed f ts) (interpreted h us) (is_wide_value (interpreted h us)) (result_fits g k.declaration.result (interpreted h us) (hook_result g h k.declaration.arguments k.declaration.result e) q) q (call_itself g f ts k (ap stands_in_terms m) w)
call_sorted g h f ts k None m e w i = summed_call_sorted g k.declaration.result h k.declaration.arguments ts (headed f ts) e (call_itself g f ts k (ap stands_in_terms m) w)

pub symbol_fits : (g : KoreSignature) (f : Text) (k : IsPlainSymbol g f) (h : Hook) → meaning_of g f ≡ interpretation h → fits_hook g h k.declaration.arguments k.declaration.result ≡ true
symbol_fits g f k h m = let d = k.declaration in it_fits g d h (an_interpretation (is_identity d) (is_constructor d) (is_plain d) (fitting_hook g d) h (sym (ap (meaning_by g) k.declared) ∙ m)).1

made_sorted : (g : KoreSignature) (f : Text) (ts : SymbolicTerms) (k : IsPlainSymbol g f) (m : SymbolMeaning) → meaning_of g f ≡ m → stands_in_terms m ≡ true → AreWellSorted g (places_of g f) ts → IsWellSorted g k.declaration.result (made g m f ts)
made_sorted g f ts k construction m i w = construction_sorted g f ts k (values_known ts) m w (λ us. known_right g (places_of g f) ts us w)
made_sorted g f ts k (interpretation h) m i w = call_sorted g h f ts k (values_known ts) m (symbol_fits g f k h m) w (λ us. known_right g (places_of g f) ts us w)
made_sorted g f ts k injection m i w = absurd (cc)
made_sorted g f ts k foreign m i w = absurd (cc)

pub applied_sorted : (g : KoreSignature) (f : Text) (ts : SymbolicTerms) (k : IsPlainSymbol g f) → stands_in_terms (meaning_of g f) ≡ true → AreWellSorted g (places_of g f) ts → IsWellSorted g k.declaration.result (applied_term g f ts)
applied_sorted g f ts k i w = made_sorted g f ts k (meaning_of g f) refl i w

-- ---- inj

only_sorted : (g : KoreSignature) (a b : KoreSort) (ts : SymbolicTerms) → IsBelow g.subsorts a b → AreWellSorted g (next_sort a no_sorts) ts → IsWellSorted g b (only_term ts)
only_sorted g a b no_terms i w = absurd w
only_sorted g a b (next_term t no_terms) i w = sorted_above g a b t i w.0
only_sorted g a b (next_term t (next_term u ts)) i w = absurd w.1

injection_sorted : (g : KoreSignature) (f : Text) (ss : KoreSorts) (ps : KorePatterns) (s : KoreSort) (ts : SymbolicTerms) (d : SymbolDeclaration) → symbol_declared g f ≡ Some d → is_identity d ≡ true → length (sort_list ss) ≡ 2 → at_arguments d.parameters ss d.result ≡ s
    → injection_fault g (application f ss ps) ≡ None → AreWellSorted g (all_at_arguments d.parameters ss d.arguments) ts → IsWellSorted g s (only_term ts)
injection_sorted g f no_sorts ps s ts d e i n q h w = absurd (cc)
injection_sorted g f (next_sort a no_sorts) ps s ts d e i n q h w = absurd (cc)
injection_sorted g f (next_sort a (next_sort b (next_sort c ss))) ps s ts d e i n q h w = absurd (cc)
injection_sorted g f (next_sort a (next_sort b no_sorts)) ps s ts d e i n q h w =
    let usual = inj_goes_across d a b i in
    subst (λ t. IsWellSorted g t (only_term ts)) (sym usual.gives ∙ q)
    (only_sorted g a b ts (goes_upwards g f a b ps d e (first_true (is_injection d) _ i) h) (subst (λ zs. AreWellSorted g zs ts) usual.takes w))

injected_sorted : (g : KoreSignature) (f : Text) (ss : KoreSorts) (ps : KorePatterns) (s : KoreSort) (ts : SymbolicTerms) → meaning_of g f ≡ injection → symbol_fault g (application f ss ps) ≡ None → injection_fault g (application f ss ps) ≡ None → result_sort g f ss ≡ Some s → AreWellSorted g (argument_sorts g f ss) ts → IsWellSorted g s (only_term ts)
injected_sorted g f ss ps s ts m h k q w = by (symbol_declared g f) refl
  where
    by : (o : Option SymbolDeclaration) → symbol_declared g f ≡ o → IsWellSorted g s (only_term ts)
    by None e = absurd (no_meaning_injects (sym (ap (meaning_by g) e) ∙ m))
      where
        no_meaning_injects : foreign ≡ injection → ⊥
        no_meaning_injects z = cc
    by (Some d) e =
        let i = an_injection (is_identity d) (is_constructor d) (is_plain d) (fitting_hook g d) (sym (ap (meaning_by g) e) ∙ m) in
        injection_sorted g f ss ps s ts d e i (sym (as_many_sorts g f ss ps d e h) ∙ (Decides-eqb (length d.parameters) 2).0 (second_true _ (length d.parameters == 2) (first_true (is_injection d) _ i)))
        (some_inside (sym (ap (λ o. result_by ss o (alias_declared g f)) e) ∙ q)) k
        (subst (λ zs. AreWellSorted g zs ts) (ap (λ o. sorts_by ss (profile_by o (alias_declared g f))) e) w)

-- ---- folding

not_foreign : (b : Bool) → not b ≡ true → b ≡ false
not_foreign true e = absurd (cc)
not_foreign false e = refl

application_sorted : (g : KoreSignature) (f : Text) (ss : KoreSorts) (ps : KorePatterns) (s : KoreSort) (ts : SymbolicTerms) (m : SymbolMeaning) → meaning_of g f ≡ m → is_foreign_meaning m ≡ false → symbol_fault g (application f ss ps) ≡ None → injection_fault g (application f ss ps) ≡ None → result_sort g f ss ≡ Some s → AreWellSorted g (argument_sorts g f ss) ts → IsWellSorted g s (made g m f ts)
application_sorted g f ss ps s ts injection m i h k q w = injected_sorted g f ss ps s ts m h k q w
application_sorted g f ss ps s ts foreign m i h k q w = absurd (cc)
application_sorted g f ss ps s ts construction m i h k q w =
    let z = plain_symbol g f (ap stands_in_terms m) in
    subst (λ t. IsWellSorted g t (made g construction f ts)) (some_inside (sym (result_is g f ss z) ∙ q)) (made_sorted g f ts z construction m refl (subst (λ zs. AreWellSorted g zs ts) (arguments_are g f ss z) w))
application_sorted g f ss ps s ts (interpretation n) m i h k q w =
    let z = plain_symbol g f (ap stands_in_terms m) in
    subst (λ t. IsWellSorted g t (made g (interpretation n) f ts)) (some_inside (sym (result_is g f ss z) ∙ q)) (made_sorted g f ts z (interpretation n) m refl (subst (λ zs. AreWellSorted g zs ts) (arguments_are g f ss z) w))

literal_fits : (g : KoreSignature) (c : Place) (s : KoreSort) (text : Text) → first_fault g c (literal s text) ≡ None → NumbersFit (literal_value g s text)
literal_fits g c s text e = by (is_integer_sort g s) (is_boolean_sort g s) refl
  where
    by : (i b : Bool) → is_integer_sort g s ≡ i → NumbersFit (cond i (whole (signed_digits_value 10 text)) (cond b (truth (bytes_eq text (codes "true"))) (token s text)))
    by true b i = fits_signed (signed_digits_value 10 text) (whole_literal g c s text i e).1
    by false true i = tt
    by false false i = tt

mutual
  pub folded_sorted : (g : KoreSignature) (rs : List Replaced) (c : Place) (p : KorePattern) (s : KoreSort) → first_fault g c p ≡ None → own_sort g p ≡ Some s → is_term p ≡ true → none_within (has_foreign_head g) p ≡ true → AreWellPlaced g rs (free_variables p) → IsWellSorted g s (folded g rs p)
  folded_sorted g rs c (variable x t) s e q term meant a = subst (λ o. IsWellSorted g o (folded g rs (variable x t))) (some_inside q) a.0
  folded_sorted g rs c (literal t text) s e q term meant a = subst (λ o. IsWellSorted g o (folded g rs (literal t text))) (some_inside q) (term_is_sorted g c (literal t text) t (λ y. no_meaning) e refl refl refl tt, literal_fits g c t text e)
  folded_sorted g rs c (application f ss ps) s e q term meant a =
      let k = keeps_rules g c (application f ss ps) (nothing_earlier _ _ e) in
      application_sorted g f ss ps s (all_folded g rs ps) (meaning_of g f) refl (not_foreign (is_foreign_meaning (meaning_of g f)) (first_true (not (is_foreign_meaning (meaning_of g f))) (none_among (has_foreign_head g) ps) meant)) k.symbol k.injection q
      (all_folded_sorted g rs c (argument_sorts g f ss) ps (nothing_later (fault_at g c (application f ss ps)) _ e) (as_many_arguments g f ss ps k.symbol) term (second_true (not (is_foreign_meaning (meaning_of g f))) (none_among (has_foreign_head g) ps) meant) a)
  folded_sorted g rs c _ s e q term meant a = absurd (cc)

  pub all_folded_sorted : (g : KoreSignature) (rs : List Replaced) (c : Place) (ss : KoreSorts) (ps : KorePatterns) → arguments_fault g c ss ps ≡ None → length (sort_list ss) ≡ length (pattern_list ps) → are_terms ps ≡ true → none_among (has_foreign_head g) ps ≡ true → AreWellPlaced g rs (all_free_variables ps) → AreWellSorted g ss (all_folded g rs ps)
  all_folded_sorted g rs c no_sorts no_patterns e n terms meant a = tt
  all_folded_sorted g rs c no_sorts (next_pattern p ps) e n terms meant a = absurd (cc)
  all_folded_sorted g rs c (next_sort s ss) no_patterns e n terms meant a = absurd (cc)
  all_folded_sorted g rs c (next_sort s ss) (next_pattern p ps) e n terms meant a =
      let here = nothing_earlier _ _ e in
      let placed : SortedName → Type 0 = λ x. IsWellSorted g x.sort (term_for x (replacement_for rs x.name)) in (
        folded_sorted g rs (argument_at c s) p s here (term_has_wanted_sort g (argument_at c s) p s (first_true (is_term p) (are_terms ps) terms) here refl) (first_true (is_term p) (are_terms ps) terms) (none_in_first (has_foreign_head g) p ps meant) (all_first placed (free_variables p) (all_free_variables ps) a),
        all_folded_sorted g rs (after p c) ss ps (nothing_later (first_fault g (argument_at c s) p) _ e) (same_rest (length (sort_list ss)) (length (pattern_list ps)) n) (second_true (is_term p) (are_terms ps) terms) (none_in_others (has_foreign_head g) p ps meant) (all_second placed (free_variables p) (all_free_variables ps) a),
      )

-- ---- terms in the place of variables

one_number_sort : (g : KoreSignature) (a b : KoreSort) → is_number_sort g a ≡ true → is_number_sort g b ≡ true → a ≡ b
one_number_sort g a b i e = some_inside (sym (number_sort_is g a i) ∙ number_sort_is g b e)

two_numbers : (g : KoreSignature) (s : KoreSort) (ss : KoreSorts) (t u : SymbolicTerm) → is_number_sort g s ≡ true → are_two (is_number_sort g) ss ≡ true → IsWellSorted g s t → IsWellSorted g s u → AreWellSorted g ss (next_term t (next_term u no_terms))
two_numbers g s no_sorts t u i e w z = absurd (cc)
two_numbers g s (next_sort a no_sorts) t u i e w z = absurd (cc)
two_numbers g s (next_sort a (next_sort b (next_sort c ss))) t u i e w z = absurd (cc)
two_numbers g s (next_sort a (next_sort b no_sorts)) t u i e w z = (
  subst (λ o. IsWellSorted g o t) (one_number_sort g s a i (first_true (is_number_sort g a) (is_number_sort g b) e)) w,
  (subst (λ o. IsWellSorted g o u) (one_number_sort g s b i (second_true (is_number_sort g a) (is_number_sort g b) e)) z, tt),
)

call_of_number : (g : KoreSignature) (a : Arithmetic) (s : KoreSort) (f : Text) (t : SymbolicTerm) (n : ℤ) → meaning_of g f ≡ interpretation (whole_arithmetic a) → is_number_sort g s ≡ true → IsWellSorted g s t → fits_number n ≡ true → IsWellSorted g s (applied_term g f (next_term t (next_term (known (whole n)) no_terms)))
call_of_number g a s f t n m i w q =
    let k = plain_symbol g f (ap stands_in_terms m) in
    let e = symbol_fits g f k (whole_arithmetic a) m in
    subst (λ o. IsWellSorted g o (applied_term g f (next_term t (next_term (known (whole n)) no_terms)))) (one_number_sort g k.declaration.result s (second_true (are_two (is_number_sort g) k.declaration.arguments) (is_number_sort g k.declaration.result) e) i)
    (applied_sorted g f (next_term t (next_term (known (whole n)) no_terms)) k (ap stands_in_terms m)
    (subst (λ zs. AreWellSorted g zs (next_term t (next_term (known (whole n)) no_terms))) (sym (places_are g f k)) (two_numbers g s k.declaration.arguments t (known (whole n)) i (first_true (are_two (is_number_sort g) k.declaration.arguments) (is_number_sort g k.declaration.result) e) w ((s, number_sort_is g s i, itself s), fits_signed n q))))

under_sorted : (g : KoreSignature) (a : Arithmetic) (s : KoreSort) (o : Option Text) (t otherwise : SymbolicTerm) (n : ℤ) → ((f : Text) → o ≡ Some f → meaning_of g f ≡ interpretation (whole_arithmetic a)) → is_number_sort g s ≡ true → IsWellSorted g s t → is_some o && fits_number n ≡ true → IsWellSorted g s (under_symbol g o t n otherwise)
under_sorted g a s (Some f) t otherwise n m i w q = call_of_number g a s f t n (m f refl) i w (second_true true (fits_number n) q)
under_sorted g a s None t otherwise n m i w q = absurd (cc)

added_sorted : (g : KoreSignature) (s : KoreSort) (t otherwise : SymbolicTerm) (c : ℤ) (b : Bool) → is_number_sort g s ≡ true → IsWellSorted g s t → (if b then is_some (least_symbol g addition) && fits_number c else is_some (least_symbol g subtraction) && fits_number (neg_ℤ c)) ≡ true
    → IsWellSorted g s (if b then under_symbol g (least_symbol g addition) t c otherwise else under_symbol g (least_symbol g subtraction) t (neg_ℤ c) otherwise)
added_sorted g s t otherwise c true i w q = under_sorted g addition s (least_symbol g addition) t otherwise c (least_is g addition g.symbols) i w q
added_sorted g s t otherwise c false i w q = under_sorted g subtraction s (least_symbol g subtraction) t otherwise (neg_ℤ c) (least_is g subtraction g.symbols) i w q

mutual
  pub replaced_sorted : (g : KoreSignature) (rs : List Replaced) (s : KoreSort) (t : SymbolicTerm) → IsWellSorted g s t → AreWellPlaced g rs (term_variables t) → IsWellSorted g s (replaced g rs t)
  replaced_sorted g rs s (unknown x) w a = sorted_above g x.sort s (term_for x (replacement_for rs x.name)) w a.0
  replaced_sorted g rs s (offset x c) w a = sorted_above g x.sort s (replaced g rs (offset x c)) w.2 (added_sorted g x.sort (term_for x (replacement_for rs x.name)) (offset x c) c (int_lt (pos 0) c) w.0 a.0 w.1)
  replaced_sorted g rs s (known u) w a = w
  replaced_sorted g rs s (headed f ts) w a =
      let k = plain_symbol g f w.0 in
      sorted_above g k.declaration.result s (replaced g rs (headed f ts)) (subst (λ o. IsBelow g.subsorts o s) (some_inside (sym w.1.1 ∙ result_is g f no_sorts k)) w.1.2)
      (applied_sorted g f (all_replaced g rs ts) k w.0 (all_replaced_sorted g rs (places_of g f) ts w.2 a))

  pub all_replaced_sorted : (g : KoreSignature) (rs : List Replaced) (ss : KoreSorts) (ts : SymbolicTerms) → AreWellSorted g ss ts → AreWellPlaced g rs (all_term_variables ts) → AreWellSorted g ss (all_replaced g rs ts)
  all_replaced_sorted g rs no_sorts no_terms w a = tt
  all_replaced_sorted g rs (next_sort s ss) (next_term t ts) w a =
      let placed : SortedName → Type 0 = λ x. IsWellSorted g x.sort (term_for x (replacement_for rs x.name)) in (
        replaced_sorted g rs s t w.0 (all_first placed (term_variables t) (all_term_variables ts) a),
        all_replaced_sorted g rs ss ts w.1 (all_second placed (term_variables t) (all_term_variables ts) a),
      )
  all_replaced_sorted g rs no_sorts (next_term t ts) w a = absurd w
  all_replaced_sorted g rs (next_sort s ss) no_terms w a = absurd w
