-- Settled terms: their numbers can be written, and each call in them is left by folding, so it has no value that fits.
use Rattle.std.proofs.Common.{◌≡◌, refl, sym, ap, subst, ◌⊎◌, inl, inr, ℤ, pos, neg_ℤ, ◌+ℤ◌, Bool, true, false, not, ◌&&◌, List, [], ◌∷◌, Option, Some, None}
use Rattle.std.specs.Prelude.{if◌then◌else◌, is_some, int_lt, FitsSigned, ⊤}
use Rattle.std.specs.Int.{w128}
use Rattle.std.specs.Ordering.{int_eq}
use Rattle.std.specs.List.{AllByRecursion}
use Rattle.std.specs.Str.{bytes_eq}
use Rattle.kp_kore.specs.Syntax.{Text, KoreSort, KoreSorts, no_sorts, next_sort}
use Rattle.kp_kore.specs.Hooks.{Arithmetic, addition, subtraction, Hook, whole_arithmetic, whole_comparison, truth_connective, truth_negation, values_equal, values_different}
use Rattle.kp_kore.specs.Limits.{fits_number}
use Rattle.kp_kore.specs.Parts.{SortedName}
use Rattle.kp_kore.specs.Signature.{KoreSignature, SymbolMeaning, injection, construction, interpretation, foreign, meaning_of, integer_sort, is_integer_sort, is_number_sort, are_two}
use Rattle.kp_kore.specs.Value.{Value, whole, truth, token, constructed, Values, no_values, next_value}
use Rattle.kp_kore.specs.Interpretation.{computed, interpreted}
use Rattle.kp_kore.specs.Foreign.{is_interpretation}
use Rattle.kp_kore.specs.Replies.{is_wide_value}
use Rattle.kp_kore.proofs.InstanceLemmas.{first_true, second_true}
use Rattle.kp_compile.specs.Spelled.{places_of}
use Rattle.kp_symbolic.specs.Terms.{SymbolicTerm, unknown, offset, known, headed, SymbolicTerms, no_terms, next_term, Replaced, replacement_for}
use Rattle.kp_symbolic.specs.Folding.{least_symbol, Sum, sum_of, can_be_added, summed, summed_call, with_first, values_known, only_term, made_construction, made_call, made, applied_term, term_for, under_symbol, replaced, all_replaced}
use Rattle.kp_symbolic.specs.WellFormed.{stands_in_terms}
use Rattle.kp_symbolic.proofs.Replacing.{least_is}
use Rattle.kp_symbolic.proofs.WellSorted.{plain_symbol, places_are, number_sort_is}
use Rattle.kp_symbolic.proofs.SortedFolding.{fits_signed, symbol_fits}
use Rattle.kp_symbolic.proofs.NormalForm.{integer_at}

-- ---- values and terms

-- a number is one of 128 bits where there is a whole-number sort, a token none of that sort, and no head is a call
abbrev mutual
  pub IsSettledValue : KoreSignature → Value → Type 0
  IsSettledValue g (whole n) = (s : KoreSort) × (integer_sort g ≡ Some s) × FitsSigned w128 n
  IsSettledValue g (truth b) = ⊤
  IsSettledValue g (token s x) = is_integer_sort g s ≡ false
  IsSettledValue g (constructed c us) = (is_interpretation (meaning_of g c) ≡ false) × AreSettledValues g us

  pub AreSettledValues : KoreSignature → Values → Type 0
  AreSettledValues g no_values = ⊤
  AreSettledValues g (next_value u us) = IsSettledValue g u × AreSettledValues g us

-- there are no more terms than places
abbrev pub HaveRoom : KoreSorts → SymbolicTerms → Type 0
HaveRoom ss no_terms = ⊤
HaveRoom no_sorts (next_term t ts) = ⊥
HaveRoom (next_sort s ss) (next_term t ts) = HaveRoom ss ts

-- a call has no more arguments than places
abbrev pub HasRoom : KoreSignature → Text → SymbolicTerms → Type 0
HasRoom g f ts = is_interpretation (meaning_of g f) ≡ true → HaveRoom (places_of g f) ts

-- a sum can be written, and a call is its own fold
abbrev mutual
  pub IsSettled : KoreSignature → SymbolicTerm → Type 0
  IsSettled g (unknown x) = ⊤
  IsSettled g (offset x c) = (is_number_sort g x.sort ≡ true) × (can_be_added g c ≡ true)
  IsSettled g (known u) = IsSettledValue g u
  IsSettled g (headed f ts) = (applied_term g f ts ≡ headed f ts) × HasRoom g f ts × AreSettled g ts

  pub AreSettled : KoreSignature → SymbolicTerms → Type 0
  AreSettled g no_terms = ⊤
  AreSettled g (next_term t ts) = IsSettled g t × AreSettled g ts

abbrev pub ArePutSettled : KoreSignature → List Replaced → Type 0
ArePutSettled g rs = AllByRecursion (λ r. IsSettled g r.term) rs

-- ---- an application over settled arguments

not_wide : (b : Bool) → not b ≡ false → b ≡ true
not_wide true e = refl
not_wide false e = absurd (cc)

result_settled : (g : KoreSignature) (h : Hook) (us : Values) → AreSettledValues g us → is_wide_value (interpreted h us) ≡ false → IsSettledValue g (interpreted h us)
result_settled g (whole_arithmetic a) (next_value (whole m) (next_value (whole n) no_values)) s e = (s.0.0, s.0.1, fits_signed (computed a m n) (not_wide (fits_number (computed a m n)) e))
result_settled g (whole_comparison c) (next_value (whole m) (next_value (whole n) no_values)) s e = tt
result_settled g (truth_connective c) (next_value (truth a) (next_value (truth b) no_values)) s e = tt
result_settled g truth_negation (next_value (truth a) no_values) s e = tt
result_settled g values_equal (next_value u (next_value w no_values)) s e = tt
result_settled g values_different (next_value u (next_value w no_values)) s e = tt
result_settled g h us s e = tt

known_next : (g : KoreSignature) (u : Value) (o : Option Values) (us : Values) → IsSettledValue g u → ((ws : Values) → o ≡ Some ws → AreSettledValues g ws) → with_first (Some u) o ≡ Some us → AreSettledValues g us
known_next g u (Some ws) us s i e = let q : next_value u ws ≡ us = cc in subst (AreSettledValues g) q (s, i ws refl)
known_next g u None us s i e = absurd (cc)

pub known_settled : (g : KoreSignature) (ts : SymbolicTerms) (us : Values) → AreSettled g ts → values_known ts ≡ Some us → AreSettledValues g us
known_settled g no_terms us s e = let q : no_values ≡ us = cc in subst (AreSettledValues g) q tt
known_settled g (next_term (known u) ts) us s e = known_next g u (values_known ts) us s.0 (λ ws. known_settled g ts ws s.1) e
known_settled g (next_term (unknown x) ts) us s e = absurd (cc)
known_settled g (next_term (offset x c) ts) us s e = absurd (cc)
known_settled g (next_term (headed f vs) ts) us s e = absurd (cc)

-- the application is the call itself, or settled
abbrev IsCallOrSettled : KoreSignature → SymbolicTerm → SymbolicTerm → Type 0
IsCallOrSettled g call t = (t ≡ call) ⊎ IsSettled g t

at_constant : (g : KoreSignature) (x : SortedName) (n : ℤ) (call : SymbolicTerm) (b d : Bool) → is_number_sort g x.sort ≡ true → can_be_added g n ≡ d → IsCallOrSettled g call (if b then unknown x else if d then offset x n else call)
at_constant g x n call true d i a = inr tt
at_constant g x n call false true i a = inr (i, a)
at_constant g x n call false false i a = inl refl

sum_shape : (g : KoreSignature) (o : Option Sum) (c : ℤ) (call : SymbolicTerm) → ((m : Sum) → o ≡ Some m → is_number_sort g m.variable.sort ≡ true) → IsCallOrSettled g call (summed g o c call)
sum_shape g (Some m) c call i = at_constant g m.variable (m.constant +ℤ c) call (int_eq (m.constant +ℤ c) (pos 0)) (can_be_added g (m.constant +ℤ c)) (i m refl) refl
sum_shape g None c call i = inl refl

number_sum : (g : KoreSignature) (t : SymbolicTerm) (m : Sum) → sum_of g t ≡ Some m → is_number_sort g m.variable.sort ≡ true
number_sum g (unknown x) m e = integer_at g x (pos 0) m (is_number_sort g x.sort) refl e
number_sum g (offset x c) m e = integer_at g x c m (is_number_sort g x.sort) refl e
number_sum g (known u) m e = absurd (cc)
number_sum g (headed f ts) m e = absurd (cc)

summed_shape : (g : KoreSignature) (h : Hook) (ts : SymbolicTerms) (call : SymbolicTerm) → IsCallOrSettled g call (summed_call g h ts call)
summed_shape g (whole_arithmetic addition) (next_term t (next_term (known (whole c)) no_terms)) call = sum_shape g (sum_of g t) c call (number_sum g t)
summed_shape g (whole_arithmetic addition) (next_term (known (whole c)) (next_term t no_terms)) call = sum_shape g (sum_of g t) c call (number_sum g t)
summed_shape g (whole_arithmetic subtraction) (next_term t (next_term (known (whole c)) no_terms)) call = sum_shape g (sum_of g t) (neg_ℤ c) call (number_sum g t)
summed_shape g h ts call = inl refl

width_shape : (g : KoreSignature) (call : SymbolicTerm) (u : Value) (b : Bool) → (b ≡ false → IsSettledValue g u) → IsCallOrSettled g call (if b then call else known u)
width_shape g call u true s = inl refl
width_shape g call u false s = inr (s refl)

call_shape : (g : KoreSignature) (h : Hook) (f : Text) (ts : SymbolicTerms) (o : Option Values) → ((us : Values) → o ≡ Some us → AreSettledValues g us) → IsCallOrSettled g (headed f ts) (made_call g h f ts o)
call_shape g h f ts (Some us) s = width_shape g (headed f ts) (interpreted h us) (is_wide_value (interpreted h us)) (λ e. result_settled g h us (s us refl) e)
call_shape g h f ts None s = summed_shape g h ts (headed f ts)

construction_shape : (g : KoreSignature) (f : Text) (ts : SymbolicTerms) (o : Option Values) → is_interpretation (meaning_of g f) ≡ false → ((us : Values) → o ≡ Some us → AreSettledValues g us) → IsCallOrSettled g (headed f ts) (made_construction f ts o)
construction_shape g f ts (Some us) i s = inr (i, s us refl)
construction_shape g f ts None i s = inl refl

only_shape : (g : KoreSignature) (call : SymbolicTerm) (ts : SymbolicTerms) → AreSettled g ts → IsCallOrSettled g call (only_term ts)
only_shape g call no_terms a = inr tt
only_shape g call (next_term t no_terms) a = inr a.0
only_shape g call (next_term t (next_term u ts)) a = inr tt

made_shape : (g : KoreSignature) (m : SymbolMeaning) (f : Text) (ts : SymbolicTerms) → meaning_of g f ≡ m → AreSettled g ts → IsCallOrSettled g (headed f ts) (made g m f ts)
made_shape g injection f ts e a = only_shape g (headed f ts) ts a
made_shape g construction f ts e a = construction_shape g f ts (values_known ts) (ap is_interpretation e) (λ us. known_settled g ts us a)
made_shape g (interpretation h) f ts e a = call_shape g h f ts (values_known ts) (λ us. known_settled g ts us a)
made_shape g foreign f ts e a = inl refl

pub applied_settled : (g : KoreSignature) (f : Text) (ts : SymbolicTerms) → AreSettled g ts → HasRoom g f ts → IsSettled g (applied_term g f ts)
applied_settled g f ts a r = by (made_shape g (meaning_of g f) f ts refl a)
  where
    by : IsCallOrSettled g (headed f ts) (applied_term g f ts) → IsSettled g (applied_term g f ts)
    by (inl e) = subst (IsSettled g) (sym e) (e, r, a)
    by (inr s) = s

-- ---- places of calls

is_standing : (m : SymbolMeaning) → is_interpretation m ≡ true → stands_in_terms m ≡ true
is_standing (interpretation h) e = refl
is_standing construction e = absurd (cc)
is_standing injection e = absurd (cc)
is_standing foreign e = absurd (cc)

pub stands : (g : KoreSignature) (f : Text) → is_interpretation (meaning_of g f) ≡ true → stands_in_terms (meaning_of g f) ≡ true
stands g f e = is_standing (meaning_of g f) e

two_have_room : (test : KoreSort → Bool) (ss : KoreSorts) (t u : SymbolicTerm) → are_two test ss ≡ true → HaveRoom ss (next_term t (next_term u no_terms))
two_have_room test no_sorts t u e = absurd (cc)
two_have_room test (next_sort a no_sorts) t u e = absurd (cc)
two_have_room test (next_sort a (next_sort b (next_sort c ss))) t u e = absurd (cc)
two_have_room test (next_sort a (next_sort b no_sorts)) t u e = tt

pub arithmetic_has_room : (g : KoreSignature) (f : Text) (a : Arithmetic) (t u : SymbolicTerm) → meaning_of g f ≡ interpretation (whole_arithmetic a) → HaveRoom (places_of g f) (next_term t (next_term u no_terms))
arithmetic_has_room g f a t u m =
    let k = plain_symbol g f (ap stands_in_terms m) in
    let d = k.declaration in
    subst (λ ss. HaveRoom ss (next_term t (next_term u no_terms))) (sym (places_are g f k))
    (two_have_room (is_number_sort g) d.arguments t u (first_true (are_two (is_number_sort g) d.arguments) (is_number_sort g d.result) (symbol_fits g f k (whole_arithmetic a) m)))

-- ---- replacing

pub found_settled : (g : KoreSignature) (rs : List Replaced) (x : SortedName) → ArePutSettled g rs → IsSettled g (term_for x (replacement_for rs x.name))
found_settled g [] x a = tt
found_settled g (r ∷ rs) x a = by (bytes_eq r.name x.name) (found_settled g rs x a.1)
  where
    by : (b : Bool) → IsSettled g (term_for x (replacement_for rs x.name)) → IsSettled g (term_for x (if b then Some r.term else replacement_for rs x.name))
    by true h = a.0
    by false h = h

under_settled : (g : KoreSignature) (a : Arithmetic) (s : KoreSort) (o : Option Text) (t otherwise : SymbolicTerm) (n : ℤ) → ((f : Text) → o ≡ Some f → meaning_of g f ≡ interpretation (whole_arithmetic a)) → integer_sort g ≡ Some s → is_some o && fits_number n ≡ true → IsSettled g t → IsSettled g otherwise → IsSettled g (under_symbol g o t n otherwise)
under_settled g a s (Some f) t otherwise n m i q h k =
    applied_settled g f (next_term t (next_term (known (whole n)) no_terms)) (h, ((s, i, fits_signed n (second_true true (fits_number n) q)), tt)) (λ e. arithmetic_has_room g f a t (known (whole n)) (m f refl))
under_settled g a s None t otherwise n m i q h k = k

added_settled : (g : KoreSignature) (s : KoreSort) (t otherwise : SymbolicTerm) (c : ℤ) (b : Bool) → integer_sort g ≡ Some s → (if b then is_some (least_symbol g addition) && fits_number c else is_some (least_symbol g subtraction) && fits_number (neg_ℤ c)) ≡ true → IsSettled g t → IsSettled g otherwise
    → IsSettled g (if b then under_symbol g (least_symbol g addition) t c otherwise else under_symbol g (least_symbol g subtraction) t (neg_ℤ c) otherwise)
added_settled g s t otherwise c true i q h k = under_settled g addition s (least_symbol g addition) t otherwise c (least_is g addition g.symbols) i q h k
added_settled g s t otherwise c false i q h k = under_settled g subtraction s (least_symbol g subtraction) t otherwise (neg_ℤ c) (least_is g subtraction g.symbols) i q h k

all_replaced_room : (g : KoreSignature) (rs : List Replaced) (ss : KoreSorts) (ts : SymbolicTerms) → HaveRoom ss ts → HaveRoom ss (all_replaced g rs ts)
all_replaced_room g rs ss no_terms r = tt
all_replaced_room g rs no_sorts (next_term t ts) r = absurd r
all_replaced_room g rs (next_sort s ss) (next_term t ts) r = all_replaced_room g rs ss ts r

mutual
  pub replaced_settled : (g : KoreSignature) (rs : List Replaced) (t : SymbolicTerm) → ArePutSettled g rs → IsSettled g t → IsSettled g (replaced g rs t)
  replaced_settled g rs (unknown x) a s = found_settled g rs x a
  replaced_settled g rs (offset x c) a s = added_settled g x.sort (term_for x (replacement_for rs x.name)) (offset x c) c (int_lt (pos 0) c) (number_sort_is g x.sort s.0) s.1 (found_settled g rs x a) s
  replaced_settled g rs (known u) a s = s
  replaced_settled g rs (headed f ts) a s = applied_settled g f (all_replaced g rs ts) (all_replaced_settled g rs ts a s.2) (λ i. all_replaced_room g rs (places_of g f) ts (s.1 i))

  pub all_replaced_settled : (g : KoreSignature) (rs : List Replaced) (ts : SymbolicTerms) → ArePutSettled g rs → AreSettled g ts → AreSettled g (all_replaced g rs ts)
  all_replaced_settled g rs no_terms a s = tt
  all_replaced_settled g rs (next_term t ts) a s = (replaced_settled g rs t a s.0, all_replaced_settled g rs ts a s.1)
