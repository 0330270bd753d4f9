-- A term with terms in the place of its variables has the instance that it has where the variables stand for theirs.
use Rattle.std.proofs.Common.{◌≡◌, refl, sym, ◌∙◌, ap, ap₂, subst, ℤ, pos, neg_ℤ, ◌+ℤ◌, Bool, true, false, ◌&&◌, List, [], ◌∷◌, Option, Some, None}
use Rattle.std.specs.Prelude.{if◌then◌else◌, is_some, int_lt}
use Rattle.std.specs.List.{AllByRecursion}
use Rattle.std.specs.Str.{bytes_eq}
use Rattle.std.proofs.lemmas.Slice.Eq.{bytes_eq-Decides}
use Rattle.std.proofs.Math.IntN.{neg_ℤ-neg_ℤ}
use Rattle.kp_kore.specs.Syntax.{Text, SymbolDeclaration}
use Rattle.kp_kore.specs.Hooks.{Arithmetic, addition, subtraction, multiplication, whole_arithmetic}
use Rattle.kp_kore.specs.Parts.{SortedName}
use Rattle.kp_kore.specs.Signature.{KoreSignature, SymbolMeaning, interpretation, meaning_of}
use Rattle.kp_kore.specs.Value.{Value, whole, truth, token, constructed, next_value, HasSort}
use Rattle.kp_kore.specs.Forms.{two}
use Rattle.kp_kore.specs.Interpretation.{interpreted}
use Rattle.kp_kore.specs.Instance.{Valuation, GivesSorts, applied}
use Rattle.kp_kore.specs.Limits.{fits_number}
use Rattle.kp_kore.proofs.InstanceLemmas.{first_true}
use Rattle.kp_symbolic.specs.Terms.{SymbolicTerm, unknown, offset, known, headed, SymbolicTerms, no_terms, next_term, term_instance, term_instances, term_variables, all_term_variables, Replaced, replacement_for, under_replaced}
use Rattle.kp_symbolic.specs.States.{variables_for, AreGiven}
use Rattle.kp_symbolic.specs.Folding.{is_text_before, least_of, is_arithmetic, least_symbol_among, least_symbol, applied_term, term_for, under_symbol, replaced, all_replaced, AreWritten, AreAllWritten}
use Rattle.kp_symbolic.proofs.Distribution.{all_both, all_first, all_second}
use Rattle.kp_symbolic.proofs.Folded.{applied_is, applied_variables, for_instance, for_variables, OfEach}

-- ---- the symbol by which a sum is written

arithmetic_meant : (a : Arithmetic) (m : SymbolMeaning) → is_arithmetic a m ≡ true → m ≡ interpretation (whole_arithmetic a)
arithmetic_meant addition (interpretation (whole_arithmetic addition)) e = refl
arithmetic_meant subtraction (interpretation (whole_arithmetic subtraction)) e = refl
arithmetic_meant multiplication (interpretation (whole_arithmetic multiplication)) e = refl
arithmetic_meant _ _ e = absurd (cc)

chosen : (P : Text → Type 0) (b : Bool) (x y : Text) → P x → P y → P (if b then y else x)
chosen P true x y p q = q
chosen P false x y p q = p

least_has : (P : Text → Type 0) (x : Text) (o : Option Text) → P x → ((y : Text) → o ≡ Some y → P y) → P (least_of x o)
least_has P x (Some y) p q = chosen P (is_text_before y x) x y p (q y refl)
least_has P x None p q = p

least_step : (P : Text → Type 0) (b : Bool) (x f : Text) (o : Option Text) → (b ≡ true → P x) → ((y : Text) → o ≡ Some y → P y) → (if b then Some (least_of x o) else o) ≡ Some f → P f
least_step P true x f o p q e = let n : least_of x o ≡ f = cc in subst P n (least_has P x o (p refl) q)
least_step P false x f o p q e = q f e

pub least_is : (g : KoreSignature) (a : Arithmetic) (ds : List SymbolDeclaration) (f : Text) → least_symbol_among g a ds ≡ Some f → meaning_of g f ≡ interpretation (whole_arithmetic a)
least_is g a [] f e = absurd (cc)
least_is g a (d ∷ ds) f e = least_step (λ x. meaning_of g x ≡ interpretation (whole_arithmetic a)) (is_arithmetic a (meaning_of g d.name)) d.name f (least_symbol_among g a ds) (arithmetic_meant a (meaning_of g d.name)) (least_is g a ds) e

-- ---- sums

pub taken_away : (u : Value) (c : ℤ) → interpreted (whole_arithmetic subtraction) (two u (whole (neg_ℤ c))) ≡ interpreted (whole_arithmetic addition) (two u (whole c))
taken_away (whole n) c = ap (λ m. whole (n +ℤ m)) (neg_ℤ-neg_ℤ c)
taken_away (truth b) c = refl
taken_away (token s x) c = refl
taken_away (constructed f us) c = refl

written_sum : (g : KoreSignature) (v : Valuation) (a : Arithmetic) (f : Text) (t : SymbolicTerm) (n : ℤ) → GivesSorts g v (term_variables t) → meaning_of g f ≡ interpretation (whole_arithmetic a) → term_instance g v (applied_term g f (next_term t (next_term (known (whole n)) no_terms))) ≡ interpreted (whole_arithmetic a) (two (term_instance g v t) (whole n))
written_sum g v a f t n h m = applied_is g v f (next_term t (next_term (known (whole n)) no_terms)) (all_both (λ x. HasSort g x.sort (v x.name)) (term_variables t) [] h tt) ∙ ap (λ k. applied k f (two (term_instance g v t) (whole n))) m

added_is : (g : KoreSignature) (v : Valuation) (a : Arithmetic) (o : Option Text) (t otherwise : SymbolicTerm) (n : ℤ) → GivesSorts g v (term_variables t) → ((f : Text) → o ≡ Some f → meaning_of g f ≡ interpretation (whole_arithmetic a)) → is_some o ≡ true → term_instance g v (under_symbol g o t n otherwise) ≡ interpreted (whole_arithmetic a) (two (term_instance g v t) (whole n))
added_is g v a (Some f) t otherwise n h m e = written_sum g v a f t n h (m f refl)
added_is g v a None t otherwise n h m e = absurd (cc)

by_sign : (g : KoreSignature) (v : Valuation) (b p q : Bool) (t otherwise : SymbolicTerm) (c : ℤ) → GivesSorts g v (term_variables t) → (if b then is_some (least_symbol g addition) && p else is_some (least_symbol g subtraction) && q) ≡ true
    → term_instance g v (if b then under_symbol g (least_symbol g addition) t c otherwise else under_symbol g (least_symbol g subtraction) t (neg_ℤ c) otherwise) ≡ interpreted (whole_arithmetic addition) (two (term_instance g v t) (whole c))
by_sign g v true p q t otherwise c h e = added_is g v addition (least_symbol g addition) t otherwise c h (least_is g addition g.symbols) (first_true (is_some (least_symbol g addition)) p e)
by_sign g v false p q t otherwise c h e = added_is g v subtraction (least_symbol g subtraction) t otherwise (neg_ℤ c) h (least_is g subtraction g.symbols) (first_true (is_some (least_symbol g subtraction)) q e) ∙ taken_away (term_instance g v t) c

under_variables : (g : KoreSignature) (Q : SortedName → Type 0) (o : Option Text) (t otherwise : SymbolicTerm) (n : ℤ) → AllByRecursion Q (term_variables t) → is_some o ≡ true → AllByRecursion Q (term_variables (under_symbol g o t n otherwise))
under_variables g Q (Some f) t otherwise n a e = applied_variables g Q f (next_term t (next_term (known (whole n)) no_terms)) (all_both Q (term_variables t) [] a tt)
under_variables g Q None t otherwise n a e = absurd (cc)

sign_variables : (g : KoreSignature) (Q : SortedName → Type 0) (b p q : Bool) (t otherwise : SymbolicTerm) (c : ℤ) → AllByRecursion Q (term_variables t) → (if b then is_some (least_symbol g addition) && p else is_some (least_symbol g subtraction) && q) ≡ true
    → AllByRecursion Q (term_variables (if b then under_symbol g (least_symbol g addition) t c otherwise else under_symbol g (least_symbol g subtraction) t (neg_ℤ c) otherwise))
sign_variables g Q true p q t otherwise c a e = under_variables g Q (least_symbol g addition) t otherwise c a (first_true (is_some (least_symbol g addition)) p e)
sign_variables g Q false p q t otherwise c a e = under_variables g Q (least_symbol g subtraction) t otherwise (neg_ℤ c) a (first_true (is_some (least_symbol g subtraction)) q e)

-- ---- replacing

mutual
  pub replaced_variables : (g : KoreSignature) (rs : List Replaced) (Q : SortedName → Type 0) (t : SymbolicTerm) → AreWritten g t → OfEach rs Q (term_variables t) → AllByRecursion Q (term_variables (replaced g rs t))
  replaced_variables g rs Q (unknown x) w a = for_variables Q x (replacement_for rs x.name) a.0
  replaced_variables g rs Q (offset x c) w a = sign_variables g Q (int_lt (pos 0) c) (fits_number c) (fits_number (neg_ℤ c)) (term_for x (replacement_for rs x.name)) (offset x c) c (for_variables Q x (replacement_for rs x.name) a.0) w
  replaced_variables g rs Q (known u) w a = tt
  replaced_variables g rs Q (headed f ts) w a = applied_variables g Q f (all_replaced g rs ts) (all_replaced_variables g rs Q ts w a)

  pub all_replaced_variables : (g : KoreSignature) (rs : List Replaced) (Q : SortedName → Type 0) (ts : SymbolicTerms) → AreAllWritten g ts → OfEach rs Q (all_term_variables ts) → AllByRecursion Q (all_term_variables (all_replaced g rs ts))
  all_replaced_variables g rs Q no_terms w a = tt
  all_replaced_variables g rs Q (next_term t ts) w a = all_both Q (term_variables (replaced g rs t)) (all_term_variables (all_replaced g rs ts))
      (replaced_variables g rs Q t w.0 (all_first (λ x. AllByRecursion Q (variables_for x (replacement_for rs x.name))) (term_variables t) (all_term_variables ts) a))
      (all_replaced_variables g rs Q ts w.1 (all_second (λ x. AllByRecursion Q (variables_for x (replacement_for rs x.name))) (term_variables t) (all_term_variables ts) a))

mutual
  pub replaced_is : (g : KoreSignature) (rs : List Replaced) (v : Valuation) (t : SymbolicTerm) → AreWritten g t → AreGiven g rs v (term_variables t) → term_instance g v (replaced g rs t) ≡ term_instance g (under_replaced g rs v) t
  replaced_is g rs v (unknown x) w a = for_instance g rs v x.name x.sort (replacement_for rs x.name) refl
  replaced_is g rs v (offset x c) w a =
      by_sign g v (int_lt (pos 0) c) (fits_number c) (fits_number (neg_ℤ c)) (term_for x (replacement_for rs x.name)) (offset x c) c (for_variables (λ y. HasSort g y.sort (v y.name)) x (replacement_for rs x.name) a.0) w
      ∙ ap (λ u. interpreted (whole_arithmetic addition) (two u (whole c))) (for_instance g rs v x.name x.sort (replacement_for rs x.name) refl)
  replaced_is g rs v (known u) w a = refl
  replaced_is g rs v (headed f ts) w a = applied_is g v f (all_replaced g rs ts) (all_replaced_variables g rs (λ y. HasSort g y.sort (v y.name)) ts w a) ∙ ap (applied (meaning_of g f) f) (all_replaced_is g rs v ts w a)

  pub all_replaced_is : (g : KoreSignature) (rs : List Replaced) (v : Valuation) (ts : SymbolicTerms) → AreAllWritten g ts → AreGiven g rs v (all_term_variables ts) → term_instances g v (all_replaced g rs ts) ≡ term_instances g (under_replaced g rs v) ts
  all_replaced_is g rs v no_terms w a = refl
  all_replaced_is g rs v (next_term t ts) w a = ap₂ next_value
      (replaced_is g rs v t w.0 (all_first (λ x. GivesSorts g v (variables_for x (replacement_for rs x.name))) (term_variables t) (all_term_variables ts) a))
      (all_replaced_is g rs v ts w.1 (all_second (λ x. GivesSorts g v (variables_for x (replacement_for rs x.name))) (term_variables t) (all_term_variables ts) a))

-- ---- where the equation is true

mutual
  same_term : (g : KoreSignature) (v w : Valuation) (t : SymbolicTerm) → ((y : Text) → w y ≡ v y) → term_instance g w t ≡ term_instance g v t
  same_term g v w (unknown x) e = e x.name
  same_term g v w (offset x c) e = ap (λ u. interpreted (whole_arithmetic addition) (two u (whole c))) (e x.name)
  same_term g v w (known u) e = refl
  same_term g v w (headed f ts) e = ap (applied (meaning_of g f) f) (same_terms g v w ts e)

  same_terms : (g : KoreSignature) (v w : Valuation) (ts : SymbolicTerms) → ((y : Text) → w y ≡ v y) → term_instances g w ts ≡ term_instances g v ts
  same_terms g v w no_terms e = refl
  same_terms g v w (next_term t ts) e = ap₂ next_value (same_term g v w t e) (same_terms g v w ts e)

pub one_replaced : (g : KoreSignature) (v : Valuation) (x : Text) (t : SymbolicTerm) → v x ≡ term_instance g v t → (y : Text) → under_replaced g (record { name = x; term = t } ∷ []) v y ≡ v y
one_replaced g v x t e y = by (bytes_eq x y) refl
  where
    by : (b : Bool) → bytes_eq x y ≡ b → under_replaced g (record { name = x; term = t } ∷ []) v y ≡ v y
    by true q = rw q (sym e ∙ ap v ((bytes_eq-Decides x y).0 q))
    by false q = rw q refl

pub solved_term_is : (g : KoreSignature) (v : Valuation) (x : Text) (t u : SymbolicTerm) → AreWritten g u → AreGiven g (record { name = x; term = t } ∷ []) v (term_variables u) → v x ≡ term_instance g v t → term_instance g v (replaced g (record { name = x; term = t } ∷ []) u) ≡ term_instance g v u
solved_term_is g v x t u w a e = replaced_is g (record { name = x; term = t } ∷ []) v u w a ∙ same_term g v (under_replaced g (record { name = x; term = t } ∷ []) v) u (one_replaced g v x t e)
