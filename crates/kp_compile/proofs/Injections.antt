-- inj has one argument wherever it stands in a verified term.
use Rattle.std.proofs.Common.{◌≡◌, refl, sym, ap, subst, ◌∙◌, ℕ, Bool, true, false, not, ◌&&◌, length, Option, Some, None}
use Rattle.std.specs.Prelude.{◌==◌, IsTrue}
use Rattle.std.specs.List.{list_all}
use Rattle.kp_kore.specs.Syntax.{Text, sort_variable, KoreSorts, no_sorts, next_sort, KorePattern, KorePatterns, variable, literal, application, no_patterns, next_pattern, SymbolDeclaration}
use Rattle.kp_kore.specs.Hooks.{Hook}
use Rattle.kp_kore.specs.Parts.{is_term, are_terms, subpatterns, all_subpatterns, sort_list, pattern_list}
use Rattle.kp_kore.specs.Signature.{KoreSignature, meaning_of, symbol_declared, is_identity, is_constructor, is_plain, fitting_hook}
use Rattle.kp_kore.specs.Sorting.{all_at_arguments}
use Rattle.kp_kore.specs.Foreign.{none_within, has_foreign_head}
use Rattle.kp_kore.proofs.InstanceLemmas.{first_true, second_true}
use Rattle.kp_signature.specs.Places.{Place, argument_sorts, argument_at, after}
use Rattle.kp_signature.specs.Verify.{first_fault, fault_at, arguments_fault, symbol_fault}
use Rattle.kp_signature.proofs.Applied.{as_many}
use Rattle.kp_signature.proofs.ApplicationLemmas.{as_many_arguments, meaning_by}
use Rattle.kp_signature.proofs.InjLemmas.{inj_goes_across}
use Rattle.kp_signature.proofs.MeaningLemmas.{meaning_by_tests}
use Rattle.kp_signature.proofs.SortedInstances.{same_rest}
use Rattle.kp_signature.proofs.FaultLemmas.{nothing_earlier, nothing_later, keeps_rules}
use Rattle.std.proofs.lemmas.List.Folds.{list_all-append}
use Rattle.kp_compile.specs.Verified.{is_injection_meaning, misapplies_injection, IsVerifiedTerm}
use Rattle.kp_compile.proofs.SpelledForms.{both_true}

no_injection : (c p : Bool) (o : Option Hook) → is_injection_meaning (meaning_by_tests false c p o) ≡ false
no_injection true p o = refl
no_injection false true (Some h) = refl
no_injection false true None = refl
no_injection false false o = refl

of_one : (b : Bool) (n : ℕ) → n ≡ 1 → (b && not (n == 1)) ≡ false
of_one true n e = subst (λ m. not (m == 1) ≡ false) (sym e) refl
of_one false n e = refl

one_sort_of_arguments : (f : Text) (d : SymbolDeclaration) → IsTrue (is_identity d) → length (sort_list d.arguments) ≡ 1
one_sort_of_arguments f d i =
    let a = sort_variable f in
    sym (as_many d.parameters (next_sort a (next_sort a no_sorts)) d.arguments) ∙ ap (λ ss. length (sort_list ss)) (inj_goes_across d a a i).takes

sorts_of : (g : KoreSignature) (f : Text) (ss : KoreSorts) (d : SymbolDeclaration) → symbol_declared g f ≡ Some d → argument_sorts g f ss ≡ all_at_arguments d.parameters ss d.arguments
sorts_of g f ss d e = rw e refl

well_applied : (g : KoreSignature) (f : Text) (ss : KoreSorts) (ps : KorePatterns) → symbol_fault g (application f ss ps) ≡ None → misapplies_injection g (application f ss ps) ≡ false
well_applied g f ss ps h = by (symbol_declared g f) refl
  where
    of_declared : (d : SymbolDeclaration) → symbol_declared g f ≡ Some d → (i : Bool) → is_identity d ≡ i → misapplies_injection g (application f ss ps) ≡ false
    of_declared d e true i =
        of_one (is_injection_meaning (meaning_of g f)) (length (pattern_list ps))
        (sym (as_many_arguments g f ss ps h) ∙ ap (λ ts. length (sort_list ts)) (sorts_of g f ss d e) ∙ as_many d.parameters ss d.arguments ∙ one_sort_of_arguments f d i)
    of_declared d e false i =
        ap (λ o. is_injection_meaning (meaning_by g o) && not (length (pattern_list ps) == 1)) e
        ∙ ap (λ b. is_injection_meaning (meaning_by_tests b (is_constructor d) (is_plain d) (fitting_hook g d)) && not (length (pattern_list ps) == 1)) i
        ∙ ap (λ b. b && not (length (pattern_list ps) == 1)) (no_injection (is_constructor d) (is_plain d) (fitting_hook g d))

    by : (o : Option SymbolDeclaration) → symbol_declared g f ≡ o → misapplies_injection g (application f ss ps) ≡ false
    by (Some d) e = of_declared d e (is_identity d) refl
    by None e = ap (λ o. is_injection_meaning (meaning_by g o) && not (length (pattern_list ps) == 1)) e

mutual
  none_misapplied : (g : KoreSignature) (c : Place) (p : KorePattern) → first_fault g c p ≡ None → IsTrue (is_term p) → IsTrue (none_within (misapplies_injection g) p)
  none_misapplied g c (variable x s) e t = refl
  none_misapplied g c (literal s x) e t = refl
  none_misapplied g c (application f ss ps) e t =
      both_true (not (misapplies_injection g (application f ss ps))) (list_all (λ q. not (misapplies_injection g q)) (all_subpatterns ps))
      (ap not (well_applied g f ss ps (keeps_rules g c (application f ss ps) (nothing_earlier _ _ e)).symbol))
      (none_misapplied_in g c (argument_sorts g f ss) ps (nothing_later (fault_at g c (application f ss ps)) _ e)
      (as_many_arguments g f ss ps (keeps_rules g c (application f ss ps) (nothing_earlier _ _ e)).symbol) t)
  none_misapplied g c _ e t = absurd (cc)

  none_misapplied_in : (g : KoreSignature) (c : Place) (ss : KoreSorts) (ps : KorePatterns) → arguments_fault g c ss ps ≡ None → length (sort_list ss) ≡ length (pattern_list ps) → IsTrue (are_terms ps) →
      IsTrue (list_all (λ q. not (misapplies_injection g q)) (all_subpatterns ps))
  none_misapplied_in g c ss no_patterns e n t = refl
  none_misapplied_in g c no_sorts (next_pattern p ps) e n t = absurd (cc)
  none_misapplied_in g c (next_sort s ss) (next_pattern p ps) e n t =
      list_all-append (λ q. not (misapplies_injection g q)) (subpatterns p) (all_subpatterns ps)
      ∙ both_true (none_within (misapplies_injection g) p) (list_all (λ q. not (misapplies_injection g q)) (all_subpatterns ps))
      (none_misapplied g (argument_at c s) p (nothing_earlier _ _ e) (first_true (is_term p) (are_terms ps) t))
      (none_misapplied_in g (after p c) ss ps (nothing_later (first_fault g (argument_at c s) p) _ e) (same_rest (length (sort_list ss)) (length (pattern_list ps)) n) (second_true (is_term p) (are_terms ps) t))

-- so a verified term without foreign symbols is compiled
pub is_compiled : (g : KoreSignature) (c : Place) (p : KorePattern) → first_fault g c p ≡ None → IsTrue (none_within (has_foreign_head g) p) → IsTrue (is_term p) → IsVerifiedTerm g p
is_compiled g c p e known t = record { term = t; verified = record { place = c; faultless = e; known = known; injections = none_misapplied g c p e t } }
