-- Terms that are in normal form with all their parts, and stay so with such terms in the place of variables.
use Rattle.std.proofs.Common.{refl, ℤ, pos, neg_ℤ, ◌+ℤ◌, Bool, true, false, List, [], ◌∷◌, Option, Some, None}
use Rattle.std.specs.Prelude.{if◌then◌else◌, int_lt, ⊤}
use Rattle.std.specs.Ordering.{int_eq}
use Rattle.std.specs.List.{AllByRecursion}
use Rattle.std.specs.Str.{bytes_eq}
use Rattle.kp_kore.specs.Syntax.{Text, KorePattern, KorePatterns, variable, application, no_patterns, next_pattern}
use Rattle.kp_kore.specs.Hooks.{addition, subtraction, Hook, whole_arithmetic}
use Rattle.kp_kore.specs.Parts.{SortedName}
use Rattle.kp_kore.specs.Signature.{KoreSignature, SymbolMeaning, injection, construction, interpretation, foreign, meaning_of}
use Rattle.kp_kore.specs.Value.{Value, whole, Values}
use Rattle.kp_kore.specs.Interpretation.{interpreted}
use Rattle.kp_kore.specs.Replies.{is_wide_value}
use Rattle.kp_symbolic.specs.Terms.{SymbolicTerm, unknown, offset, known, headed, SymbolicTerms, no_terms, next_term, Replaced, replacement_for}
use Rattle.kp_symbolic.specs.WellFormed.{IsFolded}
use Rattle.kp_symbolic.specs.Folding.{least_symbol, Sum, sum_of, can_be_added, summed, summed_call, values_known, only_term, made_construction, made_call, made, applied_term, term_for, folded, all_folded, under_symbol, replaced, all_replaced}
use Rattle.kp_symbolic.proofs.NormalForm.{AreFolded, applied_folded}
use Rattle.kp_symbolic_laws.specs.Safe.{AreNormal, IsNormal, PutNormal}

pub normal_folded : (g : KoreSignature) (t : SymbolicTerm) → IsNormal g t → IsFolded g t
normal_folded g (unknown x) h = h
normal_folded g (offset x c) h = h
normal_folded g (known u) h = h
normal_folded g (headed f ts) h = h.0

all_normal_folded : (g : KoreSignature) (ts : SymbolicTerms) → AreNormal g ts → AreFolded g ts
all_normal_folded g no_terms h = tt
all_normal_folded g (next_term t ts) h = (normal_folded g t h.0, all_normal_folded g ts h.1)

-- ---- an application over normal arguments

only_normal : (g : KoreSignature) (ts : SymbolicTerms) → AreNormal g ts → IsNormal g (only_term ts)
only_normal g no_terms a = refl
only_normal g (next_term t no_terms) a = a.0
only_normal g (next_term t (next_term u ts)) a = refl

at_constant : (g : KoreSignature) (x : SortedName) (n : ℤ) (call : SymbolicTerm) (b d : Bool) → (IsFolded g call → IsNormal g call) → IsFolded g (if b then unknown x else if d then offset x n else call) → IsNormal g (if b then unknown x else if d then offset x n else call)
at_constant g x n call true d k f = f
at_constant g x n call false true k f = f
at_constant g x n call false false k f = k f

sum_normal : (g : KoreSignature) (o : Option Sum) (c : ℤ) (call : SymbolicTerm) → (IsFolded g call → IsNormal g call) → IsFolded g (summed g o c call) → IsNormal g (summed g o c call)
sum_normal g (Some m) c call k f = at_constant g m.variable (m.constant +ℤ c) call (int_eq (m.constant +ℤ c) (pos 0)) (can_be_added g (m.constant +ℤ c)) k f
sum_normal g None c call k f = k f

summed_normal : (g : KoreSignature) (h : Hook) (ts : SymbolicTerms) (call : SymbolicTerm) → (IsFolded g call → IsNormal g call) → IsFolded g (summed_call g h ts call) → IsNormal g (summed_call g h ts call)
summed_normal g (whole_arithmetic addition) (next_term t (next_term (known (whole c)) no_terms)) call k f = sum_normal g (sum_of g t) c call k f
summed_normal g (whole_arithmetic addition) (next_term (known (whole c)) (next_term t no_terms)) call k f = sum_normal g (sum_of g t) c call k f
summed_normal g (whole_arithmetic subtraction) (next_term t (next_term (known (whole c)) no_terms)) call k f = sum_normal g (sum_of g t) (neg_ℤ c) call k f
summed_normal g h ts call k f = k f

width_normal : (g : KoreSignature) (call : SymbolicTerm) (u : Value) (b : Bool) → (IsFolded g call → IsNormal g call) → IsFolded g (if b then call else known u) → IsNormal g (if b then call else known u)
width_normal g call u true k f = k f
width_normal g call u false k f = f

call_normal : (g : KoreSignature) (h : Hook) (f : Text) (ts : SymbolicTerms) (o : Option Values) → AreNormal g ts → IsFolded g (made_call g h f ts o) → IsNormal g (made_call g h f ts o)
call_normal g h f ts (Some us) a k = width_normal g (headed f ts) (interpreted h us) (is_wide_value (interpreted h us)) (λ i. (i, a)) k
call_normal g h f ts None a k = summed_normal g h ts (headed f ts) (λ i. (i, a)) k

construction_normal : (g : KoreSignature) (f : Text) (ts : SymbolicTerms) (o : Option Values) → AreNormal g ts → IsFolded g (made_construction f ts o) → IsNormal g (made_construction f ts o)
construction_normal g f ts (Some us) a k = k
construction_normal g f ts None a k = (k, a)

made_normal : (g : KoreSignature) (m : SymbolMeaning) (f : Text) (ts : SymbolicTerms) → AreNormal g ts → IsFolded g (made g m f ts) → IsNormal g (made g m f ts)
made_normal g injection f ts a k = only_normal g ts a
made_normal g construction f ts a k = construction_normal g f ts (values_known ts) a k
made_normal g (interpretation h) f ts a k = call_normal g h f ts (values_known ts) a k
made_normal g foreign f ts a k = (k, a)

pub applied_normal : (g : KoreSignature) (f : Text) (ts : SymbolicTerms) → AreNormal g ts → IsNormal g (applied_term g f ts)
applied_normal g f ts a = made_normal g (meaning_of g f) f ts a (applied_folded g f ts (all_normal_folded g ts a))

-- ---- folding and replacing

put_normal : (g : KoreSignature) (rs : List Replaced) (x : SortedName) → PutNormal g rs → IsNormal g (term_for x (replacement_for rs x.name))
put_normal g [] x a = refl
put_normal g (r ∷ rs) x a = by (bytes_eq r.name x.name) (put_normal g rs x a.1)
  where
    by : (b : Bool) → IsNormal g (term_for x (replacement_for rs x.name)) → IsNormal g (term_for x (if b then Some r.term else replacement_for rs x.name))
    by true h = a.0
    by false h = h

mutual
  pub folded_normal : (g : KoreSignature) (rs : List Replaced) (p : KorePattern) → PutNormal g rs → IsNormal g (folded g rs p)
  folded_normal g rs (variable x s) a = put_normal g rs (record { name = x; sort = s }) a
  folded_normal g rs (application f ss ps) a = applied_normal g f (all_folded g rs ps) (all_folded_normal g rs ps a)
  folded_normal g rs _ a = refl

  all_folded_normal : (g : KoreSignature) (rs : List Replaced) (ps : KorePatterns) → PutNormal g rs → AreNormal g (all_folded g rs ps)
  all_folded_normal g rs no_patterns a = tt
  all_folded_normal g rs (next_pattern p ps) a = (folded_normal g rs p a, all_folded_normal g rs ps a)

under_normal : (g : KoreSignature) (o : Option Text) (t otherwise : SymbolicTerm) (n : ℤ) → IsNormal g t → IsNormal g otherwise → IsNormal g (under_symbol g o t n otherwise)
under_normal g (Some f) t otherwise n h k = applied_normal g f (next_term t (next_term (known (whole n)) no_terms)) (h, (refl, tt))
under_normal g None t otherwise n h k = k

added_normal : (g : KoreSignature) (t otherwise : SymbolicTerm) (c : ℤ) (b : Bool) → IsNormal g t → IsNormal g otherwise → IsNormal g (if b then under_symbol g (least_symbol g addition) t c otherwise else under_symbol g (least_symbol g subtraction) t (neg_ℤ c) otherwise)
added_normal g t otherwise c true h k = under_normal g (least_symbol g addition) t otherwise c h k
added_normal g t otherwise c false h k = under_normal g (least_symbol g subtraction) t otherwise (neg_ℤ c) h k

mutual
  pub replaced_normal : (g : KoreSignature) (rs : List Replaced) (t : SymbolicTerm) → PutNormal g rs → IsNormal g t → IsNormal g (replaced g rs t)
  replaced_normal g rs (unknown x) a h = put_normal g rs x a
  replaced_normal g rs (offset x c) a h = added_normal g (term_for x (replacement_for rs x.name)) (offset x c) c (int_lt (pos 0) c) (put_normal g rs x a) h
  replaced_normal g rs (known u) a h = refl
  replaced_normal g rs (headed f ts) a h = applied_normal g f (all_replaced g rs ts) (all_replaced_normal g rs ts a h.1)

  all_replaced_normal : (g : KoreSignature) (rs : List Replaced) (ts : SymbolicTerms) → PutNormal g rs → AreNormal g ts → AreNormal g (all_replaced g rs ts)
  all_replaced_normal g rs no_terms a h = tt
  all_replaced_normal g rs (next_term t ts) a h = (replaced_normal g rs t a h.0, all_replaced_normal g rs ts a h.1)
