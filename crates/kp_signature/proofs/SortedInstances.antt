-- The instance of a verified term has the term's sort.
use Rattle.std.proofs.Common.{◌≡◌, refl, sym, subst, ◌∙◌, ℕ, suc, arith, Bool, true, false, not, ◌||◌, cond, List, [], ◌∷◌, ◌++◌, length, Some, None}
use Rattle.std.specs.Prelude.{IsTrue, codes}
use Rattle.std.specs.Str.Parse.{signed_digits_value}
use Rattle.std.specs.List.{list_all}
use Rattle.std.specs.Str.{bytes_eq}
use Rattle.std.proofs.lemmas.List.Folds.{list_all-append}
use Rattle.kp_kore.specs.Syntax.{Text, KoreSort, KoreSorts, no_sorts, next_sort, KorePattern, variable, literal, application, KorePatterns, no_patterns, next_pattern}
use Rattle.kp_kore.specs.Parts.{SortedName, is_term, are_terms, free_variables, all_free_variables, subpatterns, all_subpatterns, sort_list, pattern_list}
use Rattle.kp_kore.specs.Signature.{KoreSignature, meaning_of, integer_sort, boolean_sort, is_integer_sort, is_boolean_sort, is_token_sort, itself}
use Rattle.kp_kore.specs.Value.{whole, truth, token, HasSort, HaveSorts}
use Rattle.kp_kore.specs.Instance.{Valuation, GivesSorts, instance, instances, literal_value}
use Rattle.kp_kore.specs.Foreign.{none_within, has_foreign_head, is_foreign_meaning}
use Rattle.kp_kore.proofs.InstanceLemmas.{first_true, second_true}
use Rattle.kp_signature.specs.Places.{Place, own_sort, argument_sorts, argument_at, after}
use Rattle.kp_kore.specs.Limits.{writes_number}
use Rattle.kp_signature.specs.Verify.{first_fault, fault_at, arguments_fault, literal_fault, is_literal_of, no_literal}
use Rattle.kp_signature.proofs.FaultLemmas.{nothing_earlier, nothing_later, term_has_wanted_sort, keeps_rules, no_fault_unless}
use Rattle.kp_signature.proofs.SortLemmas.{is_that_sort, same_inside}
use Rattle.kp_signature.proofs.ApplicationLemmas.{as_many_arguments, application_is_sorted}

-- ---- literals

abbrev taken : Bool → Bool → Bool → Bool → Bool → Bool
taken i b number word tokens = cond i number (cond b word tokens)

literal_is_sorted : (g : KoreSignature) (s : KoreSort) (text : Text) → literal_fault g (literal s text) ≡ None → HasSort g s (literal_value g s text)
literal_is_sorted g s text e =
    by (is_integer_sort g s) (is_boolean_sort g s) refl refl (no_fault_unless (is_literal_of g s text) (no_literal text) e)
  where
    by : (i b : Bool) → is_integer_sort g s ≡ i → is_boolean_sort g s ≡ b → taken i b (writes_number text) (bytes_eq text (codes "true") || bytes_eq text (codes "false")) (is_token_sort g s) ≡ true →
        HasSort g s (cond i (whole (signed_digits_value 10 text)) (cond b (truth (bytes_eq text (codes "true"))) (token s text)))
    by true b p q h = (s, is_that_sort (integer_sort g) s p, itself s)
    by false true p q h = (s, is_that_sort (boolean_sort g) s q, itself s)
    by false false p q h = (s, (refl, h), itself s)

-- ---- what holds of all parts holds of the arguments

abbrev pub none_among : (KorePattern → Bool) → KorePatterns → Bool
none_among test ps = list_all (λ q. not (test q)) (all_subpatterns ps)

pub none_in_first : (test : KorePattern → Bool) (p : KorePattern) (ps : KorePatterns) → none_among test (next_pattern p ps) ≡ true → none_within test p ≡ true
none_in_first test p ps e = first_true (none_within test p) (none_among test ps) (sym (list_all-append (λ q. not (test q)) (subpatterns p) (all_subpatterns ps)) ∙ e)

pub none_in_others : (test : KorePattern → Bool) (p : KorePattern) (ps : KorePatterns) → none_among test (next_pattern p ps) ≡ true → none_among test ps ≡ true
none_in_others test p ps e = second_true (none_within test p) (none_among test ps) (sym (list_all-append (λ q. not (test q)) (subpatterns p) (all_subpatterns ps)) ∙ e)

pub gives_first : (g : KoreSignature) (v : Valuation) (xs ys : List SortedName) → GivesSorts g v (xs ++ ys) → GivesSorts g v xs
gives_first g v [] ys h = tt
gives_first g v (x ∷ xs) ys h = (h.0, gives_first g v xs ys h.1)

pub gives_second : (g : KoreSignature) (v : Valuation) (xs ys : List SortedName) → GivesSorts g v (xs ++ ys) → GivesSorts g v ys
gives_second g v [] ys h = h
gives_second g v (x ∷ xs) ys h = gives_second g v xs ys h.1

is_false : (b : Bool) → not b ≡ true → b ≡ false
is_false true e = absurd (cc)
is_false false e = refl

pub same_rest : (m n : ℕ) → suc m ≡ suc n → m ≡ n
same_rest m n e = omega arith

-- ---- terms

mutual
  pub term_is_sorted : (g : KoreSignature) (c : Place) (p : KorePattern) (s : KoreSort) (v : Valuation) → first_fault g c p ≡ None → own_sort g p ≡ Some s → IsTrue (is_term p) →
      IsTrue (none_within (has_foreign_head g) p) → GivesSorts g v (free_variables p) → HasSort g s (instance g v p)
  term_is_sorted g c (variable x t) s v e is term known given = subst (λ w. HasSort g w (v x)) (same_inside t s is) given.0
  term_is_sorted g c (literal t text) s v e is term known given = subst (λ w. HasSort g w (literal_value g t text)) (same_inside t s is) (literal_is_sorted g t text (keeps_rules g c (literal t text) e).literals)
  term_is_sorted g c (application f ss ps) s v e is term known given =
      let k = keeps_rules g c (application f ss ps) (nothing_earlier _ _ e) in
      application_is_sorted g f ss ps s (instances g v ps) is k.symbol k.injection
      (is_false (is_foreign_meaning (meaning_of g f)) (first_true (not (is_foreign_meaning (meaning_of g f))) (none_among (has_foreign_head g) ps) known))
      (terms_are_sorted g c (argument_sorts g f ss) ps v (nothing_later (fault_at g c (application f ss ps)) _ e) (as_many_arguments g f ss ps k.symbol) term
      (second_true (not (is_foreign_meaning (meaning_of g f))) (none_among (has_foreign_head g) ps) known) given)
  term_is_sorted g c _ s v e is term known given = absurd (cc)

  -- each argument has the sort of its place
  pub terms_are_sorted : (g : KoreSignature) (c : Place) (ss : KoreSorts) (ps : KorePatterns) (v : Valuation) → arguments_fault g c ss ps ≡ None → length (sort_list ss) ≡ length (pattern_list ps) → IsTrue (are_terms ps) →
      IsTrue (none_among (has_foreign_head g) ps) → GivesSorts g v (all_free_variables ps) → HaveSorts g ss (instances g v ps)
  terms_are_sorted g c no_sorts no_patterns v e n terms known given = tt
  terms_are_sorted g c no_sorts (next_pattern p ps) v e n terms known given = absurd (cc)
  terms_are_sorted g c (next_sort s ss) no_patterns v e n terms known given = absurd (cc)
  terms_are_sorted g c (next_sort s ss) (next_pattern p ps) v e n terms known given =
      let here = nothing_earlier _ _ e in (
        term_is_sorted g (argument_at c s) p s v here (term_has_wanted_sort g (argument_at c s) p s (first_true (is_term p) (are_terms ps) terms) here refl)
            (first_true (is_term p) (are_terms ps) terms) (none_in_first (has_foreign_head g) p ps known) (gives_first g v (free_variables p) (all_free_variables ps) given),
        terms_are_sorted g (after p c) ss ps v (nothing_later (first_fault g (argument_at c s) p) _ e) (same_rest (length (sort_list ss)) (length (pattern_list ps)) n) (second_true (is_term p) (are_terms ps) terms)
            (none_in_others (has_foreign_head g) p ps known) (gives_second g v (free_variables p) (all_free_variables ps) given),
      )
