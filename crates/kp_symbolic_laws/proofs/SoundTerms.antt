-- What is written for a well-sorted term is folded to the term again, with terms in the place of variables.
use Rattle.std.proofs.Common.{◌≡◌, refl, sym, ◌∙◌, ap, ap₂, subst, inl, ℤ, pos, neg_ℤ, Bool, true, false, ◌&&◌, List, [], Option, Some, None}
use Rattle.std.specs.Prelude.{if◌then◌else◌, is_some, int_lt, unwrap_or, FitsSigned}
use Rattle.std.specs.Int.{w128}
use Rattle.std.specs.Fmt.{signed_decimal}
use Rattle.std.specs.List.{AllByRecursion}
use Rattle.kp_kore.specs.Syntax.{Text, KoreSort, KoreSorts, no_sorts, next_sort, KorePattern, variable, application, literal}
use Rattle.kp_kore.specs.Attributes.{sorts_equal}
use Rattle.kp_kore.specs.Hooks.{addition, subtraction}
use Rattle.kp_kore.specs.Limits.{fits_number}
use Rattle.kp_kore.specs.Parts.{SortedName, free_variables, all_free_variables}
use Rattle.kp_kore.specs.Signature.{KoreSignature, construction, meaning_of, integer_sort, boolean_sort, IsSortOfHead, constructor_of, itself}
use Rattle.kp_kore.specs.Sorting.{result_sort}
use Rattle.kp_kore.specs.Value.{Value, whole, truth, token, constructed, Values, no_values, next_value, HasSort, HaveSorts, ArgumentSorts}
use Rattle.kp_kore.specs.Interpretation.{no_meaning}
use Rattle.kp_kore.specs.Instance.{Valuation, instance, literal_value}
use Rattle.kp_kore.proofs.InstanceLemmas.{second_true}
use Rattle.kp_compile.specs.Spelled.{placed, injected, injection_name, places_of, spelling, spellings, truth_text, NumbersFit, AllNumbersFit}
use Rattle.kp_compile.proofs.SpelledMeaning.{said}
use Rattle.kp_symbolic.specs.Terms.{SymbolicTerm, unknown, offset, known, headed, SymbolicTerms, no_terms, next_term, term_variables, all_term_variables, Replaced, replacement_for}
use Rattle.kp_symbolic.specs.WellFormed.{IsWellSorted, AreWellSorted}
use Rattle.kp_symbolic.specs.Folding.{least_symbol, with_first, value_known, values_known, made_construction, made, applied_term, term_for, folded, all_folded, under_symbol, replaced, all_replaced}
use Rattle.kp_symbolic.specs.Writing.{written_call, written_sum, written_term, written_terms}
use Rattle.kp_symbolic.proofs.Distribution.{all_both, all_first, all_second}
use Rattle.kp_symbolic.proofs.WellSorted.{number_sort_is}
use Rattle.kp_symbolic.proofs.SortedFolding.{fits_signed, replaced_sorted}
use Rattle.kp_symbolic_laws.specs.Runs.{IsSoundTerm}
use Rattle.kp_symbolic_laws.proofs.WrittenUnder.{IsInj, under_inj, written_is_term}

-- inj is left out
pub stripped : (g : KoreSignature) (rs : List Replaced) (own s : KoreSort) (p : KorePattern) → IsInj g → folded g rs (placed own s p) ≡ folded g rs p
stripped g rs own s p i = by (sorts_equal own s)
  where
    by : (b : Bool) → folded g rs (if b then p else injected own s p) ≡ folded g rs p
    by true = refl
    by false = ap (λ m. made g m injection_name (next_term (folded g rs p) no_terms)) i

-- ---- values

anything : Valuation
anything = λ y. no_meaning

constructor_means : (g : KoreSignature) (c : Text) (own : KoreSort) → IsSortOfHead g (constructor_of c) own → meaning_of g c ≡ construction
constructor_means g c own h = rw h.1 h.2

declared_places : (g : KoreSignature) (c : Text) (ss : KoreSorts) → ArgumentSorts g c ss → ss ≡ places_of g c
declared_places g c ss h = sym h.2 ∙ rw h.1 refl

literal_is : (g : KoreSignature) (b : KoreSort) (u : Value) (own : KoreSort) (x : Text) → IsInj g → HasSort g b u → NumbersFit u → spelling g b u ≡ placed own b (literal own x) → literal_value g own x ≡ u
literal_is g b u own x i h f e = sym (ap (λ p. instance_of p) e ∙ under_inj g anything own b (literal own x) i) ∙ (said g anything b u h f (inl i)).meant
  where
    instance_of : KorePattern → Value
    instance_of p = instance g anything p

mutual
  spelled_folded : (g : KoreSignature) (rs : List Replaced) (a b : KoreSort) (u : Value) → IsInj g → HasSort g b u → NumbersFit u → folded g rs (spelling g a u) ≡ known u
  spelled_folded g rs a b (whole n) i h f =
      stripped g rs _ a _ i
      ∙ ap (λ o. known (literal_value g o (signed_decimal n))) (ap (λ o. unwrap_or o a) h.1 ∙ sym (ap (λ o. unwrap_or o b) h.1))
      ∙ ap known (literal_is g b (whole n) (unwrap_or (integer_sort g) b) (signed_decimal n) i h f refl)
  spelled_folded g rs a b (truth c) i h f =
      stripped g rs _ a _ i
      ∙ ap (λ o. known (literal_value g o (truth_text c))) (ap (λ o. unwrap_or o a) h.1 ∙ sym (ap (λ o. unwrap_or o b) h.1))
      ∙ ap known (literal_is g b (truth c) (unwrap_or (boolean_sort g) b) (truth_text c) i h f refl)
  spelled_folded g rs a b (token t x) i h f = stripped g rs t a _ i ∙ ap known (literal_is g b (token t x) t x i h f refl)
  spelled_folded g rs a b (constructed c us) i h f =
      let ts = all_folded g rs (spellings g (places_of g c) us) in
      stripped g rs _ a _ i
      ∙ ap (λ m. made g m c ts) (constructor_means g c h.0.0 h.0.1)
      ∙ ap (made_construction c ts) (spelled_known g rs (places_of g c) us i (subst (λ ss. HaveSorts g ss us) (declared_places g c h.1 h.2) h.3) f)

  spelled_known : (g : KoreSignature) (rs : List Replaced) (ss : KoreSorts) (us : Values) → IsInj g → HaveSorts g ss us → AllNumbersFit us → values_known (all_folded g rs (spellings g ss us)) ≡ Some us
  spelled_known g rs no_sorts no_values i h f = refl
  spelled_known g rs no_sorts (next_value u us) i h f = absurd h
  spelled_known g rs (next_sort s ss) no_values i h f = absurd h
  spelled_known g rs (next_sort s ss) (next_value u us) i h f = ap₂ (λ t o. with_first (value_known t) o) (spelled_folded g rs s s u i h.0 f.0) (spelled_known g rs ss us i h.1 f.1)

-- ---- sums

number_is : (g : KoreSignature) (s : KoreSort) (n : ℤ) → IsInj g → integer_sort g ≡ Some s → FitsSigned w128 n → literal_value g s (signed_decimal n) ≡ whole n
number_is g s n i e f = ap (λ o. literal_value g (unwrap_or o s) (signed_decimal n)) (sym e) ∙ literal_is g s (whole n) (unwrap_or (integer_sort g) s) (signed_decimal n) i (s, e, itself s) f refl

call_folded : (g : KoreSignature) (rs : List Replaced) (o : Option Text) (x : SortedName) (n : ℤ) (otherwise : SymbolicTerm) → IsInj g → integer_sort g ≡ Some x.sort → is_some o && fits_number n ≡ true → folded g rs (written_call o x n) ≡ under_symbol g o (term_for x (replacement_for rs x.name)) n otherwise
call_folded g rs (Some f) x n otherwise i e q = ap (λ u. applied_term g f (next_term (term_for x (replacement_for rs x.name)) (next_term (known u) no_terms))) (number_is g x.sort n i e (fits_signed n (second_true true (fits_number n) q)))
call_folded g rs None x n otherwise i e q = absurd (cc)

sum_folded : (g : KoreSignature) (rs : List Replaced) (x : SortedName) (c : ℤ) (otherwise : SymbolicTerm) (b : Bool) → IsInj g → integer_sort g ≡ Some x.sort → (if b then is_some (least_symbol g addition) && fits_number c else is_some (least_symbol g subtraction) && fits_number (neg_ℤ c)) ≡ true
    → folded g rs (if b then written_call (least_symbol g addition) x c else written_call (least_symbol g subtraction) x (neg_ℤ c)) ≡ (if b then under_symbol g (least_symbol g addition) (term_for x (replacement_for rs x.name)) c otherwise else under_symbol g (least_symbol g subtraction) (term_for x (replacement_for rs x.name)) (neg_ℤ c) otherwise)
sum_folded g rs x c otherwise true i e q = call_folded g rs (least_symbol g addition) x c otherwise i e q
sum_folded g rs x c otherwise false i e q = call_folded g rs (least_symbol g subtraction) x (neg_ℤ c) otherwise i e q

-- ---- terms

mutual
  pub written_folded : (g : KoreSignature) (rs : List Replaced) (a b : KoreSort) (t : SymbolicTerm) → IsInj g → IsWellSorted g b t → folded g rs (written_term g a t) ≡ replaced g rs t
  written_folded g rs a b (unknown x) i w = stripped g rs x.sort a (variable x.name x.sort) i
  written_folded g rs a b (offset x c) i w = stripped g rs x.sort a (written_sum g x c) i ∙ sum_folded g rs x c (offset x c) (int_lt (pos 0) c) i (number_sort_is g x.sort w.0) w.1
  written_folded g rs a b (known u) i w = spelled_folded g rs a b u i w.0 w.1
  written_folded g rs a b (headed f ts) i w = stripped g rs (unwrap_or (result_sort g f no_sorts) a) a (application f no_sorts (written_terms g (places_of g f) ts)) i ∙ ap (applied_term g f) (all_written_folded g rs (places_of g f) ts i w.2)

  all_written_folded : (g : KoreSignature) (rs : List Replaced) (ss : KoreSorts) (ts : SymbolicTerms) → IsInj g → AreWellSorted g ss ts → all_folded g rs (written_terms g ss ts) ≡ all_replaced g rs ts
  all_written_folded g rs no_sorts no_terms i w = refl
  all_written_folded g rs no_sorts (next_term t ts) i w = absurd w
  all_written_folded g rs (next_sort s ss) no_terms i w = absurd w
  all_written_folded g rs (next_sort s ss) (next_term t ts) i w = ap₂ next_term (written_folded g rs s s t i w.0) (all_written_folded g rs ss ts i w.1)

-- ---- variables

pub within_placed : (Q : SortedName → Type 0) (own s : KoreSort) (p : KorePattern) → AllByRecursion Q (free_variables (placed own s p)) → AllByRecursion Q (free_variables p)
within_placed Q own s p = by (sorts_equal own s)
  where
    by : (b : Bool) → AllByRecursion Q (free_variables (if b then p else injected own s p)) → AllByRecursion Q (free_variables p)
    by true a = a
    by false a = all_first Q (free_variables p) [] a

within_call : (Q : SortedName → Type 0) (o : Option Text) (x : SortedName) (n : ℤ) → AllByRecursion Q (free_variables (written_call o x n)) → Q x
within_call Q (Some f) x n a = a.0
within_call Q None x n a = a.0

pub within_sum : (g : KoreSignature) (Q : SortedName → Type 0) (x : SortedName) (c : ℤ) → AllByRecursion Q (free_variables (written_sum g x c)) → Q x
within_sum g Q x c = by (int_lt (pos 0) c)
  where
    by : (b : Bool) → AllByRecursion Q (free_variables (if b then written_call (least_symbol g addition) x c else written_call (least_symbol g subtraction) x (neg_ℤ c))) → Q x
    by true a = within_call Q (least_symbol g addition) x c a
    by false a = within_call Q (least_symbol g subtraction) x (neg_ℤ c) a

mutual
  within_written : (g : KoreSignature) (Q : SortedName → Type 0) (a b : KoreSort) (t : SymbolicTerm) → IsWellSorted g b t → AllByRecursion Q (free_variables (written_term g a t)) → AllByRecursion Q (term_variables t)
  within_written g Q a b (unknown x) w h = within_placed Q x.sort a (variable x.name x.sort) h
  within_written g Q a b (offset x c) w h = (within_sum g Q x c (within_placed Q x.sort a (written_sum g x c) h), tt)
  within_written g Q a b (known u) w h = tt
  within_written g Q a b (headed f ts) w h = all_within_written g Q (places_of g f) ts w.2 (within_placed Q (unwrap_or (result_sort g f no_sorts) a) a (application f no_sorts (written_terms g (places_of g f) ts)) h)

  all_within_written : (g : KoreSignature) (Q : SortedName → Type 0) (ss : KoreSorts) (ts : SymbolicTerms) → AreWellSorted g ss ts → AllByRecursion Q (all_free_variables (written_terms g ss ts)) → AllByRecursion Q (all_term_variables ts)
  all_within_written g Q no_sorts no_terms w h = tt
  all_within_written g Q no_sorts (next_term t ts) w h = absurd w
  all_within_written g Q (next_sort s ss) no_terms w h = absurd w
  all_within_written g Q (next_sort s ss) (next_term t ts) w h = all_both Q (term_variables t) (all_term_variables ts)
      (within_written g Q s s t w.0 (all_first Q (free_variables (written_term g s t)) (all_free_variables (written_terms g ss ts)) h))
      (all_within_written g Q ss ts w.1 (all_second Q (free_variables (written_term g s t)) (all_free_variables (written_terms g ss ts)) h))

pub written_sound : (g : KoreSignature) (a b : KoreSort) (t : SymbolicTerm) → IsInj g → IsWellSorted g b t → IsSoundTerm g (written_term g a t)
written_sound g a b t i w = record {
  term = written_is_term g a t;
  sorted = λ rs h. (b, subst (IsWellSorted g b) (sym (written_folded g rs a b t i w)) (replaced_sorted g rs b t w (within_written g (λ x. IsWellSorted g x.sort (term_for x (replacement_for rs x.name))) a b t w h)));
}
