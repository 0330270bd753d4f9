-- How many arguments a verified application has, by the meaning of its symbol.
use Rattle.std.proofs.Common.{◌≡◌, refl, sym, ap, ◌∙◌, ℕ, suc, Bool, true, false, not, ◌&&◌, List, [], ◌∷◌, length, Option, Some, None}
use Rattle.std.specs.Prelude.{◌==◌}
use Rattle.std.proofs.lemmas.Bool.Decides.{Decides-eqb}
use Rattle.kp_kore.specs.Syntax.{Text, KoreSort, KoreSorts, no_sorts, next_sort, KorePatterns, application, SymbolDeclaration}
use Rattle.kp_kore.specs.Parts.{sort_list, pattern_list}
use Rattle.kp_kore.specs.Hooks.{Hook, whole_arithmetic, whole_comparison, truth_connective, truth_negation, values_equal, values_different}
use Rattle.kp_kore.specs.Signature.{KoreSignature, injection, construction, interpretation, foreign, meaning_of, symbol_declared, alias_declared, is_identity, is_constructor, is_plain, is_number_sort, is_truth_sort, are_two, are_one, fits_hook, fitting_hook}
use Rattle.kp_kore.specs.View.{sorts_view, patterns_view}
use Rattle.kp_kore.specs.declared.sort.Sort.{Sort}
use Rattle.kp_kore.specs.declared.pattern.Pattern.{Pattern}
use Rattle.kp_kore.specs.Foreign.{has_foreign_head, has_interpreted_head, is_foreign_meaning, is_interpretation}
use Rattle.kp_kore.proofs.InstanceLemmas.{first_true, second_true}
use Rattle.kp_signature.specs.Verify.{symbol_fault, wrong_number}
use Rattle.kp_signature.proofs.Applied.{of_profile}
use Rattle.kp_signature.proofs.KnownSorts.{number_of_sorts}
use Rattle.kp_signature.proofs.FaultLemmas.{no_fault_unless}
use Rattle.kp_signature.proofs.MeaningLemmas.{an_interpretation, it_fits}
use Rattle.kp_signature.proofs.OwnSorts.{profile_by}
use Rattle.kp_signature.proofs.ApplicationLemmas.{meaning_by}
use Rattle.kp_kore.specs.HookView.{hook_view}
use Rattle.kp_kore.specs.declared.hook.Hook as code
use Rattle.kp_kore.specs.declared.hook.Hook.TheVariants as hook
use Rattle.kp_compile.specs.Verified.{misapplies_injection, is_injection_meaning, IsVerifiedTerm, IsVerifiedLeftTerm}
use Rattle.kp_compile.proofs.VerifiedParts.{no_symbol_fault}

-- ---- the sorts of a hook's arguments

abbrev taken_by : Hook → ℕ
taken_by truth_negation = 1
taken_by _ = 2

two_taken : (test : KoreSort → Bool) (ss : KoreSorts) → are_two test ss ≡ true → length (sort_list ss) ≡ 2
two_taken test no_sorts e = absurd (cc)
two_taken test (next_sort a no_sorts) e = absurd (cc)
two_taken test (next_sort a (next_sort b no_sorts)) e = refl
two_taken test (next_sort a (next_sort b (next_sort c ss))) e = absurd (cc)

one_taken : (test : KoreSort → Bool) (ss : KoreSorts) → are_one test ss ≡ true → length (sort_list ss) ≡ 1
one_taken test no_sorts e = absurd (cc)
one_taken test (next_sort a no_sorts) e = refl
one_taken test (next_sort a (next_sort b ss)) e = absurd (cc)

fitting_number : (g : KoreSignature) (h : Hook) (ss : KoreSorts) (r : KoreSort) → fits_hook g h ss r ≡ true → length (sort_list ss) ≡ taken_by h
fitting_number g (whole_arithmetic a) ss r e = two_taken (is_number_sort g) ss (first_true (are_two (is_number_sort g) ss) _ e)
fitting_number g (whole_comparison c) ss r e = two_taken (is_number_sort g) ss (first_true (are_two (is_number_sort g) ss) _ e)
fitting_number g (truth_connective c) ss r e = two_taken (is_truth_sort g) ss (first_true (are_two (is_truth_sort g) ss) _ e)
fitting_number g truth_negation ss r e = one_taken (is_truth_sort g) ss (first_true (are_one (is_truth_sort g) ss) _ e)
fitting_number g values_equal ss r e = two_taken (λ s. true) ss (first_true (are_two (λ s. true) ss) _ e)
fitting_number g values_different ss r e = two_taken (λ s. true) ss (first_true (are_two (λ s. true) ss) _ e)

-- ---- the declaration of an interpreted symbol

declared_number : (g : KoreSignature) (f : Text) (ss : KoreSorts) (ps : KorePatterns) (d : SymbolDeclaration) → symbol_declared g f ≡ Some d → symbol_fault g (application f ss ps) ≡ None → length (sort_list d.arguments) ≡ length (pattern_list ps)
declared_number g f ss ps d e h =
    let test = length d.parameters == length (sort_list ss) in
    let other = length (sort_list d.arguments) == length (pattern_list ps) in
    (Decides-eqb (length (sort_list d.arguments)) (length (pattern_list ps))).0
    (second_true test other (no_fault_unless (test && other) (wrong_number f) (sym (ap (λ o. of_profile ss ps f (profile_by o (alias_declared g f))) e) ∙ h)))

interpreted_number : (g : KoreSignature) (f : Text) (ss : KoreSorts) (ps : KorePatterns) (h : Hook) → meaning_of g f ≡ interpretation h → symbol_fault g (application f ss ps) ≡ None → length (pattern_list ps) ≡ taken_by h
interpreted_number g f ss ps h m fault = by (symbol_declared g f) refl
  where
    by : (o : Option SymbolDeclaration) → symbol_declared g f ≡ o → length (pattern_list ps) ≡ taken_by h
    by None e = absurd (cc (sym (ap (meaning_by g) e) ∙ m))
    by (Some d) e =
        let fits = it_fits g d h (an_interpretation (is_identity d) (is_constructor d) (is_plain d) (fitting_hook g d) h (sym (ap (meaning_by g) e) ∙ m)).1 in
        sym (declared_number g f ss ps d e fault) ∙ fitting_number g h d.arguments d.result fits

-- ---- verified applications

as_many_seen : (ps : List Pattern) → length (pattern_list (patterns_view ps)) ≡ length ps
as_many_seen [] = refl
as_many_seen (p ∷ ps) = ap suc (as_many_seen ps)

two_by_hook : (h : code.Hook) → taken_by (hook_view h) ≡ 2
two_by_hook (hook.Arithmetic a) = refl
two_by_hook (hook.Comparison c) = refl
two_by_hook (hook.Connective c) = refl
two_by_hook hook.Equal = refl
two_by_hook hook.Different = refl

pub call_takes_two : (g : KoreSignature) (f : Text) (ss : KoreSorts) (ps : List Pattern) (h : code.Hook) → meaning_of g f ≡ interpretation (hook_view h) → IsVerifiedTerm g (application f ss (patterns_view ps)) → length ps ≡ 2
call_takes_two g f ss ps h m verified =
    sym (as_many_seen ps) ∙ interpreted_number g f ss (patterns_view ps) (hook_view h) m (no_symbol_fault g f ss (patterns_view ps) verified) ∙ two_by_hook h

pub opposite_takes_one : (g : KoreSignature) (f : Text) (ss : KoreSorts) (ps : List Pattern) → meaning_of g f ≡ interpretation truth_negation → IsVerifiedTerm g (application f ss (patterns_view ps)) → length ps ≡ 1
opposite_takes_one g f ss ps m verified = sym (as_many_seen ps) ∙ interpreted_number g f ss (patterns_view ps) truth_negation m (no_symbol_fault g f ss (patterns_view ps) verified)

pub inj_takes_one : (g : KoreSignature) (f : Text) (ss : KoreSorts) (ps : List Pattern) → meaning_of g f ≡ injection → IsVerifiedTerm g (application f ss (patterns_view ps)) → length ps ≡ 1
inj_takes_one g f ss ps m verified =
    sym (as_many_seen ps) ∙ (Decides-eqb (length (pattern_list (patterns_view ps))) 1).0
    (by (length (pattern_list (patterns_view ps)) == 1) (sym (ap (λ n. not (is_injection_meaning n && not (length (pattern_list (patterns_view ps)) == 1))) m)
    ∙ first_true (not (misapplies_injection g (application f ss (patterns_view ps)))) _ verified.verified.injections))
  where
    by : (b : Bool) → not (true && not b) ≡ true → b ≡ true
    by true e = refl
    by false e = absurd (cc)

pub not_foreign : (g : KoreSignature) (f : Text) (ss : KoreSorts) (ps : KorePatterns) → meaning_of g f ≡ foreign → IsVerifiedTerm g (application f ss ps) → ⊥
not_foreign g f ss ps m verified =
    absurd (cc (sym (ap (λ n. not (is_foreign_meaning n)) m) ∙ first_true (not (has_foreign_head g (application f ss ps))) _ verified.verified.known))

pub not_interpreted : (g : KoreSignature) (f : Text) (ss : KoreSorts) (ps : KorePatterns) (h : Hook) → meaning_of g f ≡ interpretation h → IsVerifiedLeftTerm g (application f ss ps) → ⊥
not_interpreted g f ss ps h m verified =
    absurd (cc (sym (ap (λ n. not (is_interpretation n)) m) ∙ first_true (not (has_interpreted_head g (application f ss ps))) _ verified.uninterpreted))

pub as_many_places : (g : KoreSignature) (f : Text) (ss : KoreSorts) (ps : List Pattern) (d : SymbolDeclaration) (places : List Sort) → symbol_declared g f ≡ Some d → d.arguments ≡ sorts_view places →
    IsVerifiedTerm g (application f ss (patterns_view ps)) → length ps ≡ length places
as_many_places g f ss ps d places e same verified =
    sym (as_many_seen ps) ∙ sym (declared_number g f ss (patterns_view ps) d e (no_symbol_fault g f ss (patterns_view ps) verified)) ∙ ap (λ l. length (sort_list l)) same ∙ number_of_sorts places

pub is_declared : (g : KoreSignature) (f : Text) → meaning_of g f ≡ construction → symbol_declared g f ≡ None → ⊥
is_declared g f m e = absurd (cc (sym (ap (meaning_by g) e) ∙ m))
