-- Folded terms are in normal form: folding them again leaves them.
use Rattle.std.proofs.Common.{◌≡◌, refl, sym, ◌∙◌, ap, ap₂, subst, ◌⊎◌, inl, inr, ℤ, pos, neg_ℤ, ◌+ℤ◌, Bool, true, false, ◌&&◌, List, [], ◌∷◌, Option, Some, None}
use Rattle.std.specs.Prelude.{if◌then◌else◌, is_some, int_lt}
use Rattle.std.specs.Ordering.{int_eq}
use Rattle.std.specs.List.{AllByRecursion}
use Rattle.std.specs.Str.{bytes_eq}
use Rattle.std.proofs.Math.IntN.{+ℤ_comm, +ℤ_idr, neg_ℤ-neg_ℤ}
use Rattle.kp_kore.specs.Syntax.{Text, KorePattern, KorePatterns, variable, application, no_patterns, next_pattern}
use Rattle.kp_kore.specs.Hooks.{addition, subtraction, Hook, whole_arithmetic}
use Rattle.kp_kore.specs.Parts.{SortedName}
use Rattle.kp_kore.specs.Signature.{KoreSignature, SymbolMeaning, injection, construction, interpretation, foreign, meaning_of, is_number_sort}
use Rattle.kp_kore.specs.Value.{Value, whole, Values}
use Rattle.kp_kore.specs.Interpretation.{interpreted}
use Rattle.kp_kore.specs.Limits.{fits_number}
use Rattle.kp_kore.specs.Replies.{is_wide_value}
use Rattle.kp_symbolic.specs.Terms.{SymbolicTerm, unknown, offset, known, headed, SymbolicTerms, no_terms, next_term, Replaced, replacement_for}
use Rattle.kp_symbolic.specs.WellFormed.{IsFolded}
use Rattle.kp_symbolic.specs.Folding.{least_symbol, Sum, sum_of, can_be_added, summed, summed_call, values_known, only_term, made_construction, made_call, made, applied_term, term_for, folded, all_folded, under_symbol, all_replaced}
use Rattle.kp_symbolic.proofs.Replacing.{least_is}

-- ---- sums

nothing_before : (n : ℤ) → pos 0 +ℤ n ≡ n
nothing_before n = +ℤ_comm (pos 0) n ∙ +ℤ_idr n

-- the sum of a whole-number variable and a constant that isn't 0 and can be written
sum_is_offset : (g : KoreSignature) (x : SortedName) (n k : ℤ) (call : SymbolicTerm) → is_number_sort g x.sort ≡ true → int_eq n (pos 0) ≡ false → can_be_added g n ≡ true → k ≡ n → summed g (sum_of g (unknown x)) k call ≡ offset x n
sum_is_offset g x n k call i z a e =
    rw i (subst (λ m. (if int_eq m (pos 0) then unknown x else if can_be_added g m then offset x m else call) ≡ offset x n) (sym (ap (λ m. pos 0 +ℤ m) e ∙ nothing_before n)) (rw (z, a) refl))

under_addition : (g : KoreSignature) (x : SortedName) (n : ℤ) (o : Option Text) (otherwise : SymbolicTerm) → is_number_sort g x.sort ≡ true → int_eq n (pos 0) ≡ false → can_be_added g n ≡ true → ((f : Text) → o ≡ Some f → meaning_of g f ≡ interpretation (whole_arithmetic addition)) → is_some o ≡ true → under_symbol g o (unknown x) n otherwise ≡ offset x n
under_addition g x n (Some f) otherwise i z a m e =
    let ts = next_term (unknown x) (next_term (known (whole n)) no_terms) in
    ap (λ k. made g k f ts) (m f refl) ∙ sum_is_offset g x n n (headed f ts) i z a refl
under_addition g x n None otherwise i z a m e = absurd (cc)

under_subtraction : (g : KoreSignature) (x : SortedName) (n : ℤ) (o : Option Text) (otherwise : SymbolicTerm) → is_number_sort g x.sort ≡ true → int_eq n (pos 0) ≡ false → can_be_added g n ≡ true → ((f : Text) → o ≡ Some f → meaning_of g f ≡ interpretation (whole_arithmetic subtraction)) → is_some o ≡ true → under_symbol g o (unknown x) (neg_ℤ n) otherwise ≡ offset x n
under_subtraction g x n (Some f) otherwise i z a m e =
    let ts = next_term (unknown x) (next_term (known (whole (neg_ℤ n))) no_terms) in
    ap (λ k. made g k f ts) (m f refl) ∙ sum_is_offset g x n (neg_ℤ (neg_ℤ n)) (headed f ts) i z a (neg_ℤ-neg_ℤ n)
under_subtraction g x n None otherwise i z a m e = absurd (cc)

first_of : (b c : Bool) → b && c ≡ true → b ≡ true
first_of true c e = refl
first_of false c e = absurd (cc)

by_sign : (g : KoreSignature) (x : SortedName) (n : ℤ) (b : Bool) (otherwise : SymbolicTerm) → is_number_sort g x.sort ≡ true → int_eq n (pos 0) ≡ false → can_be_added g n ≡ true
    → (if b then is_some (least_symbol g addition) && fits_number n else is_some (least_symbol g subtraction) && fits_number (neg_ℤ n)) ≡ true
    → (if b then under_symbol g (least_symbol g addition) (unknown x) n otherwise else under_symbol g (least_symbol g subtraction) (unknown x) (neg_ℤ n) otherwise) ≡ offset x n
by_sign g x n true otherwise i z a e = under_addition g x n (least_symbol g addition) otherwise i z a (least_is g addition g.symbols) (first_of (is_some (least_symbol g addition)) (fits_number n) e)
by_sign g x n false otherwise i z a e = under_subtraction g x n (least_symbol g subtraction) otherwise i z a (least_is g subtraction g.symbols) (first_of (is_some (least_symbol g subtraction)) (fits_number (neg_ℤ n)) e)

offset_folded : (g : KoreSignature) (x : SortedName) (n : ℤ) → is_number_sort g x.sort ≡ true → int_eq n (pos 0) ≡ false → can_be_added g n ≡ true → IsFolded g (offset x n)
offset_folded g x n i z a = by_sign g x n (int_lt (pos 0) n) (offset x n) i z a a

-- ---- an application is the call itself, or in normal form

abbrev IsCallOrFolded : KoreSignature → SymbolicTerm → SymbolicTerm → Type 0
IsCallOrFolded g call t = (t ≡ call) ⊎ IsFolded g t

at_constant : (g : KoreSignature) (x : SortedName) (n : ℤ) (call : SymbolicTerm) (b d : Bool) → is_number_sort g x.sort ≡ true → int_eq n (pos 0) ≡ b → can_be_added g n ≡ d → IsCallOrFolded g call (if b then unknown x else if d then offset x n else call)
at_constant g x n call true d i z a = inr refl
at_constant g x n call false true i z a = inr (offset_folded g x n i z a)
at_constant g x n call false false i z a = inl refl

sum_shape : (g : KoreSignature) (o : Option Sum) (c : ℤ) (call : SymbolicTerm) → ((m : Sum) → o ≡ Some m → is_number_sort g m.variable.sort ≡ true) → IsCallOrFolded g call (summed g o c call)
sum_shape g (Some m) c call i = at_constant g m.variable (m.constant +ℤ c) call (int_eq (m.constant +ℤ c) (pos 0)) (can_be_added g (m.constant +ℤ c)) (i m refl) refl refl
sum_shape g None c call i = inl refl

pub integer_at : (g : KoreSignature) (x : SortedName) (c : ℤ) (m : Sum) (b : Bool) → is_number_sort g x.sort ≡ b → (if b then Some (record { variable = x; constant = c }) else None) ≡ Some m → is_number_sort g m.variable.sort ≡ true
integer_at g x c m true i e = let y : x ≡ m.variable = cc in subst (λ z. is_number_sort g z.sort ≡ true) y i
integer_at g x c m false i e = absurd (cc)

integer_sum : (g : KoreSignature) (t : SymbolicTerm) (m : Sum) → sum_of g t ≡ Some m → is_number_sort g m.variable.sort ≡ true
integer_sum g (unknown x) m e = integer_at g x (pos 0) m (is_number_sort g x.sort) refl e
integer_sum g (offset x c) m e = integer_at g x c m (is_number_sort g x.sort) refl e
integer_sum g (known u) m e = absurd (cc)
integer_sum g (headed f ts) m e = absurd (cc)

summed_shape : (g : KoreSignature) (h : Hook) (ts : SymbolicTerms) (call : SymbolicTerm) → IsCallOrFolded g call (summed_call g h ts call)
summed_shape g (whole_arithmetic addition) (next_term t (next_term (known (whole c)) no_terms)) call = sum_shape g (sum_of g t) c call (integer_sum g t)
summed_shape g (whole_arithmetic addition) (next_term (known (whole c)) (next_term t no_terms)) call = sum_shape g (sum_of g t) c call (integer_sum g t)
summed_shape g (whole_arithmetic subtraction) (next_term t (next_term (known (whole c)) no_terms)) call = sum_shape g (sum_of g t) (neg_ℤ c) call (integer_sum g t)
summed_shape g h ts call = inl refl

width_shape : (g : KoreSignature) (call : SymbolicTerm) (u : Value) (b : Bool) → IsCallOrFolded g call (if b then call else known u)
width_shape g call u true = inl refl
width_shape g call u false = inr refl

call_shape : (g : KoreSignature) (h : Hook) (f : Text) (ts : SymbolicTerms) (o : Option Values) → IsCallOrFolded g (headed f ts) (made_call g h f ts o)
call_shape g h f ts (Some us) = width_shape g (headed f ts) (interpreted h us) (is_wide_value (interpreted h us))
call_shape g h f ts None = summed_shape g h ts (headed f ts)

construction_shape : (g : KoreSignature) (f : Text) (ts : SymbolicTerms) (o : Option Values) → IsCallOrFolded g (headed f ts) (made_construction f ts o)
construction_shape g f ts (Some us) = inr refl
construction_shape g f ts None = inl refl

abbrev pub AreFolded : KoreSignature → SymbolicTerms → Type 0
AreFolded g no_terms = Unit {0}
AreFolded g (next_term t ts) = IsFolded g t × AreFolded g ts

only_shape : (g : KoreSignature) (call : SymbolicTerm) (ts : SymbolicTerms) → AreFolded g ts → IsCallOrFolded g call (only_term ts)
only_shape g call no_terms a = inr refl
only_shape g call (next_term t no_terms) a = inr a.0
only_shape g call (next_term t (next_term u ts)) a = inr refl

made_shape : (g : KoreSignature) (m : SymbolMeaning) (f : Text) (ts : SymbolicTerms) → AreFolded g ts → IsCallOrFolded g (headed f ts) (made g m f ts)
made_shape g injection f ts a = only_shape g (headed f ts) ts a
made_shape g construction f ts a = construction_shape g f ts (values_known ts)
made_shape g (interpretation h) f ts a = call_shape g h f ts (values_known ts)
made_shape g foreign f ts a = inl refl

all_same : (g : KoreSignature) (ts : SymbolicTerms) → AreFolded g ts → all_replaced g [] ts ≡ ts
all_same g no_terms a = refl
all_same g (next_term t ts) a = ap₂ next_term a.0 (all_same g ts a.1)

pub applied_folded : (g : KoreSignature) (f : Text) (ts : SymbolicTerms) → AreFolded g ts → IsFolded g (applied_term g f ts)
applied_folded g f ts a = by (made_shape g (meaning_of g f) f ts a)
  where
    by : IsCallOrFolded g (headed f ts) (applied_term g f ts) → IsFolded g (applied_term g f ts)
    by (inl e) = subst (IsFolded g) (sym e) (ap (applied_term g f) (all_same g ts a) ∙ e)
    by (inr h) = h

-- ---- folding and replacing

found_folded : (g : KoreSignature) (rs : List Replaced) (x : SortedName) → AllByRecursion (λ r. IsFolded g r.term) rs → IsFolded g (term_for x (replacement_for rs x.name))
found_folded g [] x a = refl
found_folded g (r ∷ rs) x a = by (bytes_eq r.name x.name) (found_folded g rs x a.1)
  where
    by : (b : Bool) → IsFolded g (term_for x (replacement_for rs x.name)) → IsFolded g (term_for x (if b then Some r.term else replacement_for rs x.name))
    by true h = a.0
    by false h = h

mutual
  pub folded_folded : (g : KoreSignature) (rs : List Replaced) (p : KorePattern) → AllByRecursion (λ r. IsFolded g r.term) rs → IsFolded g (folded g rs p)
  folded_folded g rs (variable x s) a = found_folded g rs (record { name = x; sort = s }) a
  folded_folded g rs (application f ss ps) a = applied_folded g f (all_folded g rs ps) (all_folded_folded g rs ps a)
  folded_folded g rs _ a = refl

  all_folded_folded : (g : KoreSignature) (rs : List Replaced) (ps : KorePatterns) → AllByRecursion (λ r. IsFolded g r.term) rs → AreFolded g (all_folded g rs ps)
  all_folded_folded g rs no_patterns a = tt
  all_folded_folded g rs (next_pattern p ps) a = (folded_folded g rs p a, all_folded_folded g rs ps a)
