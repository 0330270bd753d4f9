-- What is written for a well-sorted term without inj is folded to the term again, with terms in the place of variables.
use Rattle.std.proofs.Common.{◌≡◌, refl, sym, ◌∙◌, ap, ap₂, subst, inr, ℤ, pos, neg_ℤ, Bool, true, false, not, ◌&&◌, List, ◌++◌, Option, Some, None}
use Rattle.std.specs.Prelude.{if◌then◌else◌, is_some, int_lt, option_map, unwrap_or, FitsSigned}
use Rattle.std.specs.Int.{w128}
use Rattle.std.specs.Fmt.{signed_decimal}
use Rattle.std.specs.List.{AllByRecursion, list_all}
use Rattle.std.proofs.lemmas.List.Folds.{list_all-append}
use Rattle.kp_kore.specs.Syntax.{Text, KoreSort, KoreSorts, no_sorts, next_sort, KorePattern, variable, application, literal}
use Rattle.kp_kore.specs.Attributes.{sorts_equal}
use Rattle.kp_kore.specs.Hooks.{addition, subtraction}
use Rattle.kp_kore.specs.Limits.{fits_number}
use Rattle.kp_kore.specs.Parts.{SortedName, free_variables, all_free_variables, subpatterns, all_subpatterns}
use Rattle.kp_kore.specs.Signature.{KoreSignature, construction, meaning_of, integer_sort, boolean_sort, IsSortOfHead, constructor_of, itself}
use Rattle.kp_kore.specs.Sorting.{result_sort}
use Rattle.kp_kore.specs.Value.{Value, whole, truth, token, constructed, Values, no_values, next_value, HasSort, HaveSorts, ArgumentSorts}
use Rattle.kp_kore.specs.Interpretation.{no_meaning}
use Rattle.kp_kore.specs.Instance.{Valuation, instance, literal_value}
use Rattle.kp_kore.proofs.InstanceLemmas.{first_true, second_true}
use Rattle.kp_kore.proofs.SameLemmas.{sorts_equal-Decides}
use Rattle.kp_compile.specs.Spelled.{own_sort, placed, injected, places_of, spelling, spellings, truth_text, has_two_sorts, NumbersFit, AllNumbersFit}
use Rattle.kp_compile.proofs.SpelledMeaning.{said}
use Rattle.kp_symbolic.specs.Terms.{SymbolicTerm, unknown, offset, known, headed, SymbolicTerms, no_terms, next_term, term_variables, all_term_variables, Replaced, replacement_for}
use Rattle.kp_symbolic.specs.WellFormed.{IsWellSorted, AreWellSorted}
use Rattle.kp_symbolic.specs.Folding.{least_symbol, with_first, value_known, values_known, made_construction, made, applied_term, term_for, folded, all_folded, under_symbol, replaced, all_replaced}
use Rattle.kp_symbolic.specs.Writing.{written_call, written_sum, written_term, written_terms}
use Rattle.kp_symbolic.proofs.Distribution.{all_both, all_first, all_second}
use Rattle.kp_symbolic.proofs.WellSorted.{number_sort_is}
use Rattle.kp_symbolic.proofs.SortedFolding.{fits_signed, replaced_sorted}
use Rattle.kp_symbolic_laws.specs.Runs.{IsSoundTerm}
use Rattle.kp_symbolic_laws.proofs.SoundTerms.{within_placed, within_sum}
use Rattle.kp_symbolic_laws.proofs.WrittenUnder.{written_is_term, at_its_sort}

-- ---- no symbol at two sorts

abbrev pub Bare : List KorePattern → Type 0
Bare ps = list_all (λ q. not (has_two_sorts q)) ps ≡ true

pub bare_left : (ps qs : List KorePattern) → Bare (ps ++ qs) → Bare ps
bare_left ps qs n = first_true (list_all (λ q. not (has_two_sorts q)) ps) (list_all (λ q. not (has_two_sorts q)) qs) (sym (list_all-append (λ q. not (has_two_sorts q)) ps qs) ∙ n)

pub bare_right : (ps qs : List KorePattern) → Bare (ps ++ qs) → Bare qs
bare_right ps qs n = second_true (list_all (λ q. not (has_two_sorts q)) ps) (list_all (λ q. not (has_two_sorts q)) qs) (sym (list_all-append (λ q. not (has_two_sorts q)) ps qs) ∙ n)

as_it_is : (own s : KoreSort) (p : KorePattern) → own ≡ s → placed own s p ≡ p
as_it_is own s p e = rw ((sorts_equal-Decides own s).1 e) refl

not_placed : (own s : KoreSort) (p : KorePattern) (b : Bool) → Bare (subpatterns (if b then p else injected own s p)) → b ≡ true
not_placed own s p true n = refl
not_placed own s p false n = absurd (cc)

same_sort : (own s : KoreSort) (p : KorePattern) → Bare (subpatterns (placed own s p)) → own ≡ s
same_sort own s p n = (sorts_equal-Decides own s).0 (not_placed own s p (sorts_equal own s) n)

-- what is placed at its own sort is left as it is
pub stands_bare : (own s : KoreSort) (p : KorePattern) → Bare (subpatterns (placed own s p)) → placed own s p ≡ p
stands_bare own s p n = as_it_is own s p (same_sort own s p n)

within_bare : (own s : KoreSort) (p : KorePattern) → Bare (subpatterns (placed own s p)) → Bare (subpatterns p)
within_bare own s p n = subst (λ q. Bare (subpatterns q)) (stands_bare own s p n) n

pub bare_folded : (g : KoreSignature) (rs : List Replaced) (own s : KoreSort) (p : KorePattern) → Bare (subpatterns (placed own s p)) → folded g rs (placed own s p) ≡ folded g rs p
bare_folded g rs own s p n = ap (folded g rs) (stands_bare own s p n)

-- ---- values

anything : Valuation
anything = λ y. no_meaning

constructor_means : (g : KoreSignature) (c : Text) (own : KoreSort) → IsSortOfHead g (constructor_of c) own → meaning_of g c ≡ construction
constructor_means g c own h = rw h.1 h.2

declared_places : (g : KoreSignature) (c : Text) (ss : KoreSorts) → ArgumentSorts g c ss → ss ≡ places_of g c
declared_places g c ss h = sym h.2 ∙ rw h.1 refl

spelled_here : (g : KoreSignature) (a b : KoreSort) (u : Value) → Bare (subpatterns (spelling g a u)) → HasSort g b u → HasSort g a u
spelled_here g a b (whole n) e h = at_its_sort g b (whole n) (integer_sort g) a h.0 refl h.1 (same_sort _ a _ e) h
spelled_here g a b (truth c) e h = at_its_sort g b (truth c) (boolean_sort g) a h.0 refl h.1 (same_sort _ a _ e) h
spelled_here g a b (token t x) e h = at_its_sort g b (token t x) (Some t) a t refl refl (same_sort t a _ e) h
spelled_here g a b (constructed c us) e h = at_its_sort g b (constructed c us) (own_sort g (constructed c us)) a h.0.1.0.result refl (ap (option_map (λ d. d.result)) h.0.1.1) (same_sort _ a _ e) h

literal_is : (g : KoreSignature) (a : KoreSort) (u : Value) (own : KoreSort) (x : Text) → HasSort g a u → NumbersFit u → Bare (subpatterns (spelling g a u)) → spelling g a u ≡ placed own a (literal own x) → literal_value g own x ≡ u
literal_is g a u own x h f n e =
    let alone : placed own a (literal own x) ≡ literal own x = stands_bare own a (literal own x) (subst (λ q. Bare (subpatterns q)) e n) in
    sym (ap (λ p. instance_of p) (e ∙ alone)) ∙ (said g anything a u h f (inr n)).meant
  where
    instance_of : KorePattern → Value
    instance_of p = instance g anything p

mutual
  spelled_folded : (g : KoreSignature) (rs : List Replaced) (a b : KoreSort) (u : Value) → Bare (subpatterns (spelling g a u)) → HasSort g b u → NumbersFit u → folded g rs (spelling g a u) ≡ known u
  spelled_folded g rs a b (whole n) i h f = bare_folded g rs _ a _ i ∙ ap known (literal_is g a (whole n) (unwrap_or (integer_sort g) a) (signed_decimal n) (spelled_here g a b (whole n) i h) f i refl)
  spelled_folded g rs a b (truth c) i h f = bare_folded g rs _ a _ i ∙ ap known (literal_is g a (truth c) (unwrap_or (boolean_sort g) a) (truth_text c) (spelled_here g a b (truth c) i h) f i refl)
  spelled_folded g rs a b (token t x) i h f = bare_folded g rs t a _ i ∙ ap known (literal_is g a (token t x) t x (spelled_here g a b (token t x) i h) f i refl)
  spelled_folded g rs a b (constructed c us) i h f =
      let p = application c no_sorts (spellings g (places_of g c) us) in
      let ts = all_folded g rs (spellings g (places_of g c) us) in
      bare_folded g rs _ a p i
      ∙ ap (λ m. made g m c ts) (constructor_means g c h.0.0 h.0.1)
      ∙ ap (made_construction c ts) (spelled_known g rs (places_of g c) us (within_bare _ a p i) (subst (λ ss. HaveSorts g ss us) (declared_places g c h.1 h.2) h.3) f)

  spelled_known : (g : KoreSignature) (rs : List Replaced) (ss : KoreSorts) (us : Values) → Bare (all_subpatterns (spellings g ss us)) → HaveSorts g ss us → AllNumbersFit us → values_known (all_folded g rs (spellings g ss us)) ≡ Some us
  spelled_known g rs no_sorts no_values i h f = refl
  spelled_known g rs no_sorts (next_value u us) i h f = absurd h
  spelled_known g rs (next_sort s ss) no_values i h f = absurd h
  spelled_known g rs (next_sort s ss) (next_value u us) i h f =
      let here = subpatterns (spelling g s u) in
      let others = all_subpatterns (spellings g ss us) in
      ap₂ (λ t o. with_first (value_known t) o) (spelled_folded g rs s s u (bare_left here others i) h.0 f.0) (spelled_known g rs ss us (bare_right here others i) h.1 f.1)

-- ---- sums

number_is : (g : KoreSignature) (s : KoreSort) (n : ℤ) → integer_sort g ≡ Some s → FitsSigned w128 n → literal_value g s (signed_decimal n) ≡ whole n
number_is g s n e f =
    let home : unwrap_or (integer_sort g) s ≡ s = ap (λ o. unwrap_or o s) e in
    let alone = as_it_is (unwrap_or (integer_sort g) s) s (literal (unwrap_or (integer_sort g) s) (signed_decimal n)) home in
    ap (λ o. literal_value g o (signed_decimal n)) (sym home)
    ∙ literal_is g s (whole n) (unwrap_or (integer_sort g) s) (signed_decimal n) (s, e, itself s) f (subst (λ q. Bare (subpatterns q)) (sym alone) refl) refl

call_folded : (g : KoreSignature) (rs : List Replaced) (o : Option Text) (x : SortedName) (n : ℤ) (otherwise : SymbolicTerm) → integer_sort g ≡ Some x.sort → is_some o && fits_number n ≡ true → folded g rs (written_call o x n) ≡ under_symbol g o (term_for x (replacement_for rs x.name)) n otherwise
call_folded g rs (Some f) x n otherwise e q = ap (λ u. applied_term g f (next_term (term_for x (replacement_for rs x.name)) (next_term (known u) no_terms))) (number_is g x.sort n e (fits_signed n (second_true true (fits_number n) q)))
call_folded g rs None x n otherwise e q = absurd (cc)

sum_folded : (g : KoreSignature) (rs : List Replaced) (x : SortedName) (c : ℤ) (otherwise : SymbolicTerm) (b : Bool) → integer_sort g ≡ Some x.sort → (if b then is_some (least_symbol g addition) && fits_number c else is_some (least_symbol g subtraction) && fits_number (neg_ℤ c)) ≡ true
    → folded g rs (if b then written_call (least_symbol g addition) x c else written_call (least_symbol g subtraction) x (neg_ℤ c)) ≡ (if b then under_symbol g (least_symbol g addition) (term_for x (replacement_for rs x.name)) c otherwise else under_symbol g (least_symbol g subtraction) (term_for x (replacement_for rs x.name)) (neg_ℤ c) otherwise)
sum_folded g rs x c otherwise true e q = call_folded g rs (least_symbol g addition) x c otherwise e q
sum_folded g rs x c otherwise false e q = call_folded g rs (least_symbol g subtraction) x (neg_ℤ c) otherwise e q

-- ---- terms

mutual
  written_folded : (g : KoreSignature) (rs : List Replaced) (a b : KoreSort) (t : SymbolicTerm) → Bare (subpatterns (written_term g a t)) → IsWellSorted g b t → folded g rs (written_term g a t) ≡ replaced g rs t
  written_folded g rs a b (unknown x) i w = bare_folded g rs x.sort a (variable x.name x.sort) i
  written_folded g rs a b (offset x c) i w = bare_folded g rs x.sort a (written_sum g x c) i ∙ sum_folded g rs x c (offset x c) (int_lt (pos 0) c) (number_sort_is g x.sort w.0) w.1
  written_folded g rs a b (known u) i w = spelled_folded g rs a b u i w.0 w.1
  written_folded g rs a b (headed f ts) i w =
      let p = application f no_sorts (written_terms g (places_of g f) ts) in
      bare_folded g rs (unwrap_or (result_sort g f no_sorts) a) a p i
      ∙ ap (applied_term g f) (all_written_folded g rs (places_of g f) ts (within_bare (unwrap_or (result_sort g f no_sorts) a) a p i) w.2)

  all_written_folded : (g : KoreSignature) (rs : List Replaced) (ss : KoreSorts) (ts : SymbolicTerms) → Bare (all_subpatterns (written_terms g ss ts)) → AreWellSorted g ss ts → all_folded g rs (written_terms g ss ts) ≡ all_replaced g rs ts
  all_written_folded g rs no_sorts no_terms i w = refl
  all_written_folded g rs no_sorts (next_term t ts) i w = absurd w
  all_written_folded g rs (next_sort s ss) no_terms i w = absurd w
  all_written_folded g rs (next_sort s ss) (next_term t ts) i w =
      let here = subpatterns (written_term g s t) in
      let others = all_subpatterns (written_terms g ss ts) in
      ap₂ next_term (written_folded g rs s s t (bare_left here others i) w.0) (all_written_folded g rs ss ts (bare_right here others i) w.1)

-- ---- variables

mutual
  within_written : (g : KoreSignature) (Q : SortedName → Type 0) (a b : KoreSort) (t : SymbolicTerm) → IsWellSorted g b t → AllByRecursion Q (free_variables (written_term g a t)) → AllByRecursion Q (term_variables t)
  within_written g Q a b (unknown x) w h = within_placed Q x.sort a (variable x.name x.sort) h
  within_written g Q a b (offset x c) w h = (within_sum g Q x c (within_placed Q x.sort a (written_sum g x c) h), tt)
  within_written g Q a b (known u) w h = tt
  within_written g Q a b (headed f ts) w h = all_within_written g Q (places_of g f) ts w.2 (within_placed Q (unwrap_or (result_sort g f no_sorts) a) a (application f no_sorts (written_terms g (places_of g f) ts)) h)

  all_within_written : (g : KoreSignature) (Q : SortedName → Type 0) (ss : KoreSorts) (ts : SymbolicTerms) → AreWellSorted g ss ts → AllByRecursion Q (all_free_variables (written_terms g ss ts)) → AllByRecursion Q (all_term_variables ts)
  all_within_written g Q no_sorts no_terms w h = tt
  all_within_written g Q no_sorts (next_term t ts) w h = absurd w
  all_within_written g Q (next_sort s ss) no_terms w h = absurd w
  all_within_written g Q (next_sort s ss) (next_term t ts) w h = all_both Q (term_variables t) (all_term_variables ts)
      (within_written g Q s s t w.0 (all_first Q (free_variables (written_term g s t)) (all_free_variables (written_terms g ss ts)) h))
      (all_within_written g Q ss ts w.1 (all_second Q (free_variables (written_term g s t)) (all_free_variables (written_terms g ss ts)) h))

pub bare_sound : (g : KoreSignature) (a b : KoreSort) (t : SymbolicTerm) → Bare (subpatterns (written_term g a t)) → IsWellSorted g b t → IsSoundTerm g (written_term g a t)
bare_sound g a b t i w = record {
  term = written_is_term g a t;
  sorted = λ rs h. (b, subst (IsWellSorted g b) (sym (written_folded g rs a b t i w)) (replaced_sorted g rs b t w (within_written g (λ x. IsWellSorted g x.sort (term_for x (replacement_for rs x.name))) a b t w h)));
}
