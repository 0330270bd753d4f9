-- The instance of a value's spelling is the value, and no interpreted call stands in it.
use Rattle.std.proofs.Common.{◌≡◌, refl, sym, ap, ap₂, subst, ◌∙◌, ne_eqb, ℕ, ◌<◌, ◌^◌, ◌==◌, ◌≤◌, suc, neg_ℤ, Bool, true, false, not, ◌&&◌, ◌⊎◌, inl, inr, ℤ, pos, negsuc, List, [], ◌∷◌, ◌++◌, Option, Some, arith}
use Rattle.std.specs.Prelude.{IsTrue, if◌then◌else◌, unwrap_or, codes, FitsSigned}
use Rattle.std.specs.Int.{w128}
use Rattle.std.specs.List.{list_all}
use Rattle.std.specs.Fmt.{decimal, signed_decimal}
use Rattle.std.specs.Char.{digit_value}
use Rattle.std.specs.Str.{bytes_eq}
use Rattle.std.specs.Str.Parse.{IsNumeral, digits_value, signed_digits_value}
use Rattle.std.proofs.lemmas.Fmt.{decimal_is_IsNumeral_wide}
use Rattle.std.proofs.lemmas.List.Folds.{list_all-append}
use Rattle.kp_kore.specs.Syntax.{Text, KoreSort, KoreSorts, no_sorts, next_sort, KorePattern, KorePatterns, application, literal, next_pattern}
use Rattle.kp_kore.specs.Attributes.{sorts_equal}
use Rattle.kp_kore.specs.Parts.{subpatterns, all_subpatterns}
use Rattle.kp_kore.specs.Signature.{KoreSignature, injection, construction, meaning_of, integer_sort, boolean_sort, is_the, is_integer_sort, is_boolean_sort, is_token_sort, IsSortOfHead, constructor_of}
use Rattle.kp_kore.specs.Value.{Value, whole, truth, token, constructed, Values, no_values, next_value, HasSort, HaveSorts, ArgumentSorts}
use Rattle.kp_kore.specs.Instance.{Valuation, instance, instances, applied, literal_value}
use Rattle.kp_signature.proofs.SortLemmas.{boolean_is_no_integer}
use Rattle.kp_kore.specs.Foreign.{has_interpreted_head, is_interpretation}
use Rattle.kp_kore.proofs.SameLemmas.{sorts_equal-Decides}
use Rattle.kp_compile.specs.Spelled.{spelling, spellings, places_of, home_of, injected, injection_name, truth_text, has_two_sorts, NumbersFit, AllNumbersFit, IsSpellingOf}
use Rattle.kp_compile.proofs.SpelledForms.{both_true, left_true, right_true, spelling_term, spelling_closed}

-- ---- inj is what it should be, or stands nowhere

abbrev pub InjectsWell : KoreSignature → List KorePattern → Type 0
InjectsWell g ps = (meaning_of g injection_name ≡ injection) ⊎ IsTrue (list_all (λ q. not (has_two_sorts q)) ps)

injects_left : (g : KoreSignature) (ps qs : List KorePattern) → InjectsWell g (ps ++ qs) → InjectsWell g ps
injects_left g ps qs (inl e) = inl e
injects_left g ps qs (inr e) = inr (left_true _ _ (sym (list_all-append (λ q. not (has_two_sorts q)) ps qs) ∙ e))

injects_right : (g : KoreSignature) (ps qs : List KorePattern) → InjectsWell g (ps ++ qs) → InjectsWell g qs
injects_right g ps qs (inl e) = inl e
injects_right g ps qs (inr e) = inr (right_true _ _ (sym (list_all-append (λ q. not (has_two_sorts q)) ps qs) ∙ e))

-- what holds of a value's spelling
pub record Says (g : KoreSignature) (v : Valuation) (u : Value) (p : KorePattern) : Type 0 where
  pub meant : instance g v p ≡ u
  pub computed : IsTrue (list_all (λ q. not (has_interpreted_head g q)) (subpatterns p))

pub record SayAll (g : KoreSignature) (v : Valuation) (us : Values) (ps : KorePatterns) : Type 0 where
  pub meant : instances g v ps ≡ us
  pub computed : IsTrue (list_all (λ q. not (has_interpreted_head g q)) (all_subpatterns ps))

said_under_inj : (g : KoreSignature) (v : Valuation) (u : Value) (own s : KoreSort) (p : KorePattern) → meaning_of g injection_name ≡ injection → Says g v u p → Says g v u (injected own s p)
said_under_inj g v u own s p e h = record {
  meant = ap (λ m. applied m injection_name (next_value (instance g v p) no_values)) e ∙ h.meant;
  computed = both_true _ _ (ap (λ m. not (is_interpretation m)) e) (list_all-append (λ q. not (has_interpreted_head g q)) (subpatterns p) [] ∙ both_true _ _ h.computed refl);
}

said_placed : (g : KoreSignature) (v : Valuation) (u : Value) (own s : KoreSort) (p : KorePattern) (b : Bool) → InjectsWell g (subpatterns (if b then p else injected own s p)) → (InjectsWell g (subpatterns p) → Says g v u p) → Says g v u (if b then p else injected own s p)
said_placed g v u own s p true i h = h i
said_placed g v u own s p false (inl e) h = said_under_inj g v u own s p e (h (inl e))
said_placed g v u own s p false (inr e) h = absurd (cc)

-- ---- literals

home_is : (o : Option KoreSort) (own s : KoreSort) → o ≡ Some own → unwrap_or o s ≡ own
home_is o own s e = ap (λ x. unwrap_or x s) e

is_itself : (o : Option KoreSort) (s : KoreSort) → o ≡ Some s → is_the o s ≡ true
is_itself o s e = ap (λ x. is_the x s) e ∙ (sorts_equal-Decides s s).1 refl

small : (n : ℕ) → n < 2 ^ 127 → n < 10 ^ 64
small n h = omega arith

small_after : (n : ℕ) → n < 2 ^ 127 → suc n < 10 ^ 64
small_after n h = omega arith

no_sign : (c k : ℕ) → digit_value c < 10 → (digit_value k < 10 → ⊥) → (c == k) ≡ false
no_sign c k h n = ne_eqb c k (λ e. n (subst (λ x. digit_value x < 10) e h))

not_below : (n : ℕ) → 10 ≤ n → n < 10 → ⊥
not_below n h k = omega arith

unsigned : (ds : List ℕ) → IsNumeral 10 ds → signed_digits_value 10 ds ≡ pos (digits_value 10 ds)
unsigned [] h = absurd (not_below 10 (omega arith) (omega (arith, h.0)))
unsigned (c ∷ cs) h =
    let minus : (c == 45) ≡ false = no_sign c 45 h.1.0 (not_below (digit_value 45) (omega arith)) in
    let plus : (c == 43) ≡ false = no_sign c 43 h.1.0 (not_below (digit_value 43) (omega arith)) in
    rw (minus, plus) refl

number_read : (n : ℤ) → FitsSigned w128 n → signed_digits_value 10 (signed_decimal n) ≡ n
number_read (pos m) h =
    let k = decimal_is_IsNumeral_wide m (small m h.sfits) in
    unsigned (decimal m) k.0 ∙ ap pos k.1
number_read (negsuc m) h =
    let k = decimal_is_IsNumeral_wide (suc m) (small_after m h.sfits) in
    ap (λ d. neg_ℤ (pos d)) k.1

said_literal : (g : KoreSignature) (v : Valuation) (s : KoreSort) (t : Text) (u : Value) → literal_value g s t ≡ u → Says g v u (literal s t)
said_literal g v s t u e = record { meant = e; computed = refl }

number_literal : (g : KoreSignature) (own : KoreSort) (n : ℤ) → integer_sort g ≡ Some own → FitsSigned w128 n → literal_value g own (signed_decimal n) ≡ whole n
number_literal g own n e h = rw (is_itself (integer_sort g) own e) (ap whole (number_read n h))

truth_read : (b : Bool) → truth (bytes_eq (truth_text b) (codes "true")) ≡ truth b
truth_read true = refl
truth_read false = refl

truth_literal : (g : KoreSignature) (own : KoreSort) (b : Bool) → boolean_sort g ≡ Some own → literal_value g own (truth_text b) ≡ truth b
truth_literal g own b e = rw (boolean_is_no_integer g own e, is_itself (boolean_sort g) own e) (truth_read b)

second_true : (a b c : Bool) → (a && not b && not c) ≡ true → b ≡ false
second_true true true c e = absurd (cc)
second_true true false c e = refl
second_true false b c e = absurd (cc)

third_true : (a b c : Bool) → (a && not b && not c) ≡ true → c ≡ false
third_true true true c e = absurd (cc)
third_true true false true e = absurd (cc)
third_true true false false e = refl
third_true false b c e = absurd (cc)

token_literal : (g : KoreSignature) (t : KoreSort) (x : Text) → is_token_sort g t ≡ true → literal_value g t x ≡ token t x
token_literal g t x h =
    let number : is_integer_sort g t ≡ false = second_true _ _ (is_boolean_sort g t) h in
    let truths : is_boolean_sort g t ≡ false = third_true _ (is_integer_sort g t) _ h in
    rw (number, truths) refl

-- ---- constructors

constructor_means : (g : KoreSignature) (c : Text) (own : KoreSort) → IsSortOfHead g (constructor_of c) own → meaning_of g c ≡ construction
constructor_means g c own h = rw h.1 h.2

declared_places : (g : KoreSignature) (c : Text) (ss : KoreSorts) → ArgumentSorts g c ss → ss ≡ places_of g c
declared_places g c ss h = sym h.2 ∙ rw h.1 refl

said_applied : (g : KoreSignature) (v : Valuation) (c : Text) (us : Values) (ps : KorePatterns) → meaning_of g c ≡ construction → SayAll g v us ps → Says g v (constructed c us) (application c no_sorts ps)
said_applied g v c us ps e h = record {
  meant = ap (λ m. applied m c (instances g v ps)) e ∙ ap (constructed c) h.meant;
  computed = both_true _ _ (ap (λ m. not (is_interpretation m)) e) h.computed;
}

said_next : (g : KoreSignature) (v : Valuation) (u : Value) (us : Values) (p : KorePattern) (ps : KorePatterns) → Says g v u p → SayAll g v us ps → SayAll g v (next_value u us) (next_pattern p ps)
said_next g v u us p ps h k = record {
  meant = ap₂ next_value h.meant k.meant;
  computed = list_all-append (λ q. not (has_interpreted_head g q)) (subpatterns p) (all_subpatterns ps) ∙ both_true _ _ h.computed k.computed;
}

-- ---- values

mutual
  pub said : (g : KoreSignature) (v : Valuation) (s : KoreSort) (u : Value) → HasSort g s u → NumbersFit u → InjectsWell g (subpatterns (spelling g s u)) → Says g v u (spelling g s u)
  said g v s (whole n) h f i =
      said_placed g v (whole n) (home_of g s (whole n)) s (literal (home_of g s (whole n)) (signed_decimal n)) (sorts_equal (home_of g s (whole n)) s) i
      (λ j. said_literal g v (home_of g s (whole n)) (signed_decimal n) (whole n) (subst (λ o. literal_value g o (signed_decimal n) ≡ whole n) (sym (home_is (integer_sort g) h.0 s h.1)) (number_literal g h.0 n h.1 f)))
  said g v s (truth b) h f i =
      said_placed g v (truth b) (home_of g s (truth b)) s (literal (home_of g s (truth b)) (truth_text b)) (sorts_equal (home_of g s (truth b)) s) i
      (λ j. said_literal g v (home_of g s (truth b)) (truth_text b) (truth b) (subst (λ o. literal_value g o (truth_text b) ≡ truth b) (sym (home_is (boolean_sort g) h.0 s h.1)) (truth_literal g h.0 b h.1)))
  said g v s (token t x) h f i =
      said_placed g v (token t x) t s (literal t x) (sorts_equal t s) i
      (λ j. said_literal g v t x (token t x) (token_literal g t x (subst (λ o. is_token_sort g o ≡ true) (sym h.1.0) h.1.1)))
  said g v s (constructed c us) h f i =
      said_placed g v (constructed c us) (home_of g s (constructed c us)) s (application c no_sorts (spellings g (places_of g c) us)) (sorts_equal (home_of g s (constructed c us)) s) i
      (λ j. said_applied g v c us (spellings g (places_of g c) us) (constructor_means g c h.0.0 h.0.1) (said_all g v (places_of g c) us (subst (λ ss. HaveSorts g ss us) (declared_places g c h.1 h.2) h.3) f (injects_right g (application c no_sorts (spellings g (places_of g c) us) ∷ []) (all_subpatterns (spellings g (places_of g c) us)) j)))

  pub said_all : (g : KoreSignature) (v : Valuation) (ss : KoreSorts) (us : Values) → HaveSorts g ss us → AllNumbersFit us → InjectsWell g (all_subpatterns (spellings g ss us)) → SayAll g v us (spellings g ss us)
  said_all g v no_sorts no_values h f i = record { meant = refl; computed = refl }
  said_all g v no_sorts (next_value u us) h f i = absurd h
  said_all g v (next_sort s ss) no_values h f i = absurd h
  said_all g v (next_sort s ss) (next_value u us) h f i =
      said_next g v u us (spelling g s u) (spellings g ss us)
      (said g v s u h.0 f.0 (injects_left g (subpatterns (spelling g s u)) (all_subpatterns (spellings g ss us)) i))
      (said_all g v ss us h.1 f.1 (injects_right g (subpatterns (spelling g s u)) (all_subpatterns (spellings g ss us)) i))

pub spelling_means : (g : KoreSignature) (s : KoreSort) (u : Value) → HasSort g s u → NumbersFit u → InjectsWell g (subpatterns (spelling g s u)) → IsSpellingOf g u (spelling g s u)
spelling_means g s u h f i = record {
  term = spelling_term g s u;
  closed = spelling_closed g s u;
  computed = (said g (λ x. u) s u h f i).computed;
  meant = λ v. (said g v s u h f i).meant;
}
