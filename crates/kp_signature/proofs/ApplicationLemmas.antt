-- An application that keeps the rules, of values of its arguments' sorts, has its own sort.
use Rattle.std.proofs.Common.{◌≡◌, refl, sym, ap, subst, ◌∙◌, Bool, true, false, not, ◌&&◌, ◌||◌, length, Option, Some, None}
use Rattle.std.specs.Prelude.{◌==◌}
use Rattle.std.proofs.lemmas.Bool.Decides.{Decides-eqb}
use Rattle.kp_kore.specs.Syntax.{Text, KoreSort, KoreSorts, no_sorts, next_sort, KorePatterns, application, SymbolDeclaration}
use Rattle.kp_kore.specs.Parts.{sort_list, pattern_list}
use Rattle.kp_kore.specs.Signature.{KoreSignature, SymbolMeaning, injection, construction, interpretation, foreign, meaning_of, symbol_meaning, symbol_declared, alias_declared, is_injection, is_identity, is_constructor, is_plain, fitting_hook, IsBelow, is_below, itself}
use Rattle.kp_kore.specs.Sorting.{at_arguments, all_at_arguments, result_sort}
use Rattle.kp_kore.specs.Value.{Values, no_values, next_value, HasSort, HaveSorts}
use Rattle.kp_kore.specs.Instance.{only_value, applied}
use Rattle.kp_kore.specs.Foreign.{is_foreign_meaning}
use Rattle.kp_kore.proofs.InstanceLemmas.{first_true, second_true}
use Rattle.kp_signature.specs.Places.{Profile, profile_of, argument_sorts}
use Rattle.kp_signature.specs.Verify.{symbol_fault, injection_fault, wrong_number, sort_differs}
use Rattle.kp_signature.proofs.Applied.{of_profile, as_many, of_declared}
use Rattle.kp_signature.proofs.Below.{is_below-Decides}
use Rattle.kp_signature.proofs.FaultLemmas.{no_fault_unless}
use Rattle.kp_signature.proofs.SortLemmas.{has_sort_above, at_no_arguments, all_at_no_arguments, same_inside}
use Rattle.kp_signature.proofs.CallLemmas.{call_is_sorted}
use Rattle.kp_signature.proofs.InjLemmas.{inj_goes_across}
use Rattle.kp_signature.proofs.MeaningLemmas.{an_injection, a_construction, an_interpretation, it_fits, no_parameters, constructor_is_plain}
use Rattle.kp_signature.proofs.OwnSorts.{profile_by, result_by}

-- ---- what the first declaration of a name gives

abbrev pub meaning_by : KoreSignature → Option SymbolDeclaration → SymbolMeaning
meaning_by g (Some d) = symbol_meaning g d
meaning_by g None = foreign

abbrev pub sorts_by : KoreSorts → Option Profile → KoreSorts
sorts_by ss (Some k) = all_at_arguments k.parameters ss k.arguments
sorts_by ss None = no_sorts

meaning_at : (g : KoreSignature) (f : Text) (d : SymbolDeclaration) → symbol_declared g f ≡ Some d → meaning_of g f ≡ symbol_meaning g d
meaning_at g f d e = ap (meaning_by g) e

sorts_at : (g : KoreSignature) (f : Text) (ss : KoreSorts) (d : SymbolDeclaration) → symbol_declared g f ≡ Some d → argument_sorts g f ss ≡ all_at_arguments d.parameters ss d.arguments
sorts_at g f ss d e = ap (λ o. sorts_by ss (profile_by o (alias_declared g f))) e

result_at : (g : KoreSignature) (f : Text) (ss : KoreSorts) (s : KoreSort) (d : SymbolDeclaration) → symbol_declared g f ≡ Some d → result_sort g f ss ≡ Some s → at_arguments d.parameters ss d.result ≡ s
result_at g f ss s d e r = same_inside (at_arguments d.parameters ss d.result) s (sym (ap (λ o. result_by ss o (alias_declared g f)) e) ∙ r)

pub as_many_sorts : (g : KoreSignature) (f : Text) (ss : KoreSorts) (ps : KorePatterns) (d : SymbolDeclaration) → symbol_declared g f ≡ Some d → symbol_fault g (application f ss ps) ≡ None → length d.parameters ≡ length (sort_list ss)
as_many_sorts g f ss ps d e h =
    let test = length d.parameters == length (sort_list ss) in
    let other = length (sort_list d.arguments) == length (pattern_list ps) in
    (Decides-eqb (length d.parameters) (length (sort_list ss))).0
    (first_true test other (no_fault_unless (test && other) (wrong_number f) (sym (ap (λ o. of_profile ss ps f (profile_by o (alias_declared g f))) e) ∙ h)))

-- there are as many arguments as sorts of arguments
pub as_many_arguments : (g : KoreSignature) (f : Text) (ss : KoreSorts) (ps : KorePatterns) → symbol_fault g (application f ss ps) ≡ None → length (sort_list (argument_sorts g f ss)) ≡ length (pattern_list ps)
as_many_arguments g f ss ps h = by (profile_of g f) h
  where
    by : (o : Option Profile) → of_profile ss ps f o ≡ None → length (sort_list (sorts_by ss o)) ≡ length (pattern_list ps)
    by None e = absurd (cc)
    by (Some k) e =
        let test = length k.parameters == length (sort_list ss) in
        let other = length (sort_list k.arguments) == length (pattern_list ps) in
        as_many k.parameters ss k.arguments
        ∙ (Decides-eqb (length (sort_list k.arguments)) (length (pattern_list ps))).0 (second_true test other (no_fault_unless (test && other) (wrong_number f) e))

pub goes_upwards : (g : KoreSignature) (f : Text) (a b : KoreSort) (ps : KorePatterns) (d : SymbolDeclaration) → symbol_declared g f ≡ Some d → is_injection d ≡ true →
    injection_fault g (application f (next_sort a (next_sort b no_sorts)) ps) ≡ None → IsBelow g.subsorts a b
goes_upwards g f a b ps d e inj h =
    (is_below-Decides g.subsorts a b).0 (by (is_injection d) (is_below g.subsorts a b) inj (no_fault_unless (not (is_injection d) || is_below g.subsorts a b) (sort_differs b a) (sym (ap (of_declared g a b) e) ∙ h)))
  where
    by : (i below : Bool) → i ≡ true → not i || below ≡ true → below ≡ true
    by true below i t = t
    by false below i t = absurd (cc)

-- ---- by its meaning

only_one_is_sorted : (g : KoreSignature) (a b : KoreSort) (us : Values) → IsBelow g.subsorts a b → HaveSorts g (next_sort a no_sorts) us → HasSort g b (only_value us)
only_one_is_sorted g a b no_values below h = absurd h
only_one_is_sorted g a b (next_value u (next_value w us)) below h = absurd h.1
only_one_is_sorted g a b (next_value u no_values) below h = has_sort_above g a b u below h.0

injected_is_sorted : (g : KoreSignature) (f : Text) (ss : KoreSorts) (ps : KorePatterns) (s : KoreSort) (d : SymbolDeclaration) (us : Values) → symbol_declared g f ≡ Some d → is_identity d ≡ true →
    length (sort_list ss) ≡ 2 → at_arguments d.parameters ss d.result ≡ s → injection_fault g (application f ss ps) ≡ None → HaveSorts g (all_at_arguments d.parameters ss d.arguments) us → HasSort g s (only_value us)
injected_is_sorted g f no_sorts ps s d us e inj n is h sorted = absurd (cc)
injected_is_sorted g f (next_sort a no_sorts) ps s d us e inj n is h sorted = absurd (cc)
injected_is_sorted g f (next_sort a (next_sort b (next_sort c ss))) ps s d us e inj n is h sorted = absurd (cc)
injected_is_sorted g f (next_sort a (next_sort b no_sorts)) ps s d us e inj n is h sorted =
    let usual = inj_goes_across d a b inj in
    subst (λ t. HasSort g t (only_value us)) (sym usual.gives ∙ is)
    (only_one_is_sorted g a b us (goes_upwards g f a b ps d e (first_true (is_injection d) _ inj) h) (subst (λ ts. HaveSorts g ts us) usual.takes sorted))

-- the sorts of a symbol without sort parameters
plain_result : (d : SymbolDeclaration) (ss : KoreSorts) (s : KoreSort) → is_plain d ≡ true → at_arguments d.parameters ss d.result ≡ s → d.result ≡ s
plain_result d ss s p is = sym (ap (λ ns. at_arguments ns ss d.result) (no_parameters d p) ∙ at_no_arguments ss d.result) ∙ is

plain_arguments : (d : SymbolDeclaration) (ss : KoreSorts) → is_plain d ≡ true → all_at_arguments d.parameters ss d.arguments ≡ d.arguments
plain_arguments d ss p = ap (λ ns. all_at_arguments ns ss d.arguments) (no_parameters d p) ∙ all_at_no_arguments ss d.arguments

applied_is_sorted : (g : KoreSignature) (f : Text) (ss : KoreSorts) (ps : KorePatterns) (s : KoreSort) (d : SymbolDeclaration) (us : Values) (m : SymbolMeaning) → symbol_meaning g d ≡ m → symbol_declared g f ≡ Some d →
    at_arguments d.parameters ss d.result ≡ s → symbol_fault g (application f ss ps) ≡ None → injection_fault g (application f ss ps) ≡ None → is_foreign_meaning m ≡ false →
    HaveSorts g (all_at_arguments d.parameters ss d.arguments) us → HasSort g s (applied m f us)
applied_is_sorted g f ss ps s d us foreign is e result fault upwards known sorted = absurd (cc)
applied_is_sorted g f ss ps s d us injection is e result fault upwards known sorted =
    let inj = an_injection (is_identity d) (is_constructor d) (is_plain d) (fitting_hook g d) is in
    injected_is_sorted g f ss ps s d us e inj (sym (as_many_sorts g f ss ps d e fault) ∙ (Decides-eqb (length d.parameters) 2).0 (second_true _ (length d.parameters == 2) (first_true (is_injection d) _ inj))) result upwards sorted
applied_is_sorted g f ss ps s d us construction is e result fault upwards known sorted =
    let c = a_construction (is_identity d) (is_constructor d) (is_plain d) (fitting_hook g d) is in
    let p = constructor_is_plain d c in (
      (d.result, (d, e, is, refl), subst (IsBelow g.subsorts d.result) (plain_result d ss s p result) (itself d.result)),
      d.arguments,
      (d, e, refl),
      subst (λ ts. HaveSorts g ts us) (plain_arguments d ss p) sorted,
    )
applied_is_sorted g f ss ps s d us (interpretation h) is e result fault upwards known sorted =
    let k = an_interpretation (is_identity d) (is_constructor d) (is_plain d) (fitting_hook g d) h is in
    subst (λ t. HasSort g t (applied (interpretation h) f us)) (plain_result d ss s k.0 result)
    (call_is_sorted g h d.arguments d.result us (it_fits g d h k.1) (subst (λ ts. HaveSorts g ts us) (plain_arguments d ss k.0) sorted))

pub application_is_sorted : (g : KoreSignature) (f : Text) (ss : KoreSorts) (ps : KorePatterns) (s : KoreSort) (us : Values) →
    result_sort g f ss ≡ Some s → symbol_fault g (application f ss ps) ≡ None → injection_fault g (application f ss ps) ≡ None → is_foreign_meaning (meaning_of g f) ≡ false →
    HaveSorts g (argument_sorts g f ss) us → HasSort g s (applied (meaning_of g f) f us)
application_is_sorted g f ss ps s us result fault upwards known sorted = by (symbol_declared g f) refl
  where
    by : (o : Option SymbolDeclaration) → symbol_declared g f ≡ o → HasSort g s (applied (meaning_of g f) f us)
    by None e = absurd (cc (sym (ap (λ m. is_foreign_meaning (meaning_by g m)) e) ∙ known))
    by (Some d) e =
        let m = meaning_at g f d e in
        subst (λ n. HasSort g s (applied n f us)) (sym m)
        (applied_is_sorted g f ss ps s d us (symbol_meaning g d) refl e (result_at g f ss s d e result) fault upwards (sym (ap is_foreign_meaning m) ∙ known)
        (subst (λ ts. HaveSorts g ts us) (sorts_at g f ss d e) sorted))
