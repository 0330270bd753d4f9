-- A call of numbers that is found in a state overflows and stands in the state.
use Rattle.std.proofs.Common.{◌≡◌, refl, sym, ap, ap₂, ◌∙◌, subst, inl, inr, ℤ, Bool, true, false, List, [], ◌∷◌, Option, Some, None}
use Rattle.std.specs.Prelude.{if◌then◌else◌}
use Rattle.std.specs.List.{Contains}
use Rattle.std.proofs.lemmas.List.{append-nil}
use Rattle.std.proofs.lemmas.List.Elements.{Contains-append_left, Contains-push}
use Rattle.kp_kore.specs.Syntax.{Text, KorePattern}
use Rattle.kp_kore.specs.Hooks.{whole_arithmetic, whole_comparison, truth_connective, truth_negation, values_equal, values_different}
use Rattle.kp_kore.specs.Signature.{KoreSignature, SymbolMeaning, injection, construction, interpretation, foreign, meaning_of}
use Rattle.kp_kore.specs.Value.{whole, truth, token, constructed}
use Rattle.kp_kore.specs.Forms.{two}
use Rattle.kp_kore.specs.Interpretation.{interpreted}
use Rattle.kp_kore.specs.Steps.{AnyByRecursion}
use Rattle.kp_symbolic.specs.Terms.{SymbolicTerm, unknown, offset, known, headed, no_terms, next_term}
use Rattle.kp_symbolic.specs.States.{SymbolicState}
use Rattle.kp_symbolic.specs.Folding.{replaced, made}
use Rattle.kp_symbolic.specs.Sources.{parts_of, all_parts_of, state_parts}
use Rattle.kp_symbolic.specs.Shown.{Overflows, IsShown, wide_number}
use Rattle.kp_symbolic.specs.Endings.{simplify_situation}
use Rattle.kp_symbolic.specs.Sums.{whole_known}
use Rattle.kp_limits.specs.Wide.{WideCall, is_wide_of, call_if, call_of, wide_call, first_of, first_wide_among, first_wide}

-- ---- what a wide call is

abbrev term_of : WideCall → SymbolicTerm
term_of c = headed c.symbol (next_term (known (whole c.first)) (next_term (known (whole c.second)) no_terms))

record IsWideTerm (g : KoreSignature) (c : WideCall) (t : SymbolicTerm) : Type 0 where
  pub is : t ≡ term_of c
  pub leaves : is_wide_of (meaning_of g c.symbol) c.first c.second ≡ true

inside : {A : Type 0} {a b : A} → Some a ≡ Some b → a ≡ b
inside e = cc

number : (t : SymbolicTerm) (n : ℤ) → whole_known t ≡ Some n → t ≡ known (whole n)
number (known (whole m)) n e = ap (λ k. known (whole k)) (inside e)
number (known (truth b)) n e = absurd (cc)
number (known (token s x)) n e = absurd (cc)
number (known (constructed f us)) n e = absurd (cc)
number (unknown x) n e = absurd (cc)
number (offset x k) n e = absurd (cc)
number (headed f ts) n e = absurd (cc)

by_test : (g : KoreSignature) (f : Text) (t u : SymbolicTerm) (m n : ℤ) (c : WideCall) (b : Bool) → t ≡ known (whole m) → u ≡ known (whole n) → is_wide_of (meaning_of g f) m n ≡ b → call_if b f m n ≡ Some c →
    IsWideTerm g c (headed f (next_term t (next_term u no_terms)))
by_test g f t u m n c true p q w e = subst (λ d. IsWideTerm g d (headed f (next_term t (next_term u no_terms)))) (inside e)
    (record { is = ap₂ (λ x y. headed f (next_term x (next_term y no_terms))) p q; leaves = w })
by_test g f t u m n c false p q w e = absurd (cc)

by_numbers : (g : KoreSignature) (f : Text) (t u : SymbolicTerm) (c : WideCall) (o p : Option ℤ) → whole_known t ≡ o → whole_known u ≡ p → call_of g f o p ≡ Some c → IsWideTerm g c (headed f (next_term t (next_term u no_terms)))
by_numbers g f t u c (Some m) (Some n) p q e = by_test g f t u m n c (is_wide_of (meaning_of g f) m n) (number t m p) (number u n q) refl e
by_numbers g f t u c (Some m) None p q e = absurd (cc)
by_numbers g f t u c None o p q e = absurd (cc)

is_wide_term : (g : KoreSignature) (t : SymbolicTerm) (c : WideCall) → wide_call g t ≡ Some c → IsWideTerm g c t
is_wide_term g (headed f (next_term t (next_term u no_terms))) c e = by_numbers g f t u c (whole_known t) (whole_known u) refl refl e
is_wide_term g (headed f no_terms) c e = absurd (cc)
is_wide_term g (headed f (next_term t no_terms)) c e = absurd (cc)
is_wide_term g (headed f (next_term t (next_term u (next_term w ts)))) c e = absurd (cc)
is_wide_term g (unknown x) c e = absurd (cc)
is_wide_term g (offset x k) c e = absurd (cc)
is_wide_term g (known u) c e = absurd (cc)

-- ---- it overflows, and is in normal form

overflows_as : (m : SymbolMeaning) (a b : ℤ) → is_wide_of m a b ≡ true → Overflows m a b
overflows_as (interpretation (whole_arithmetic k)) a b e = e
overflows_as (interpretation (whole_comparison k)) a b e = absurd (cc)
overflows_as (interpretation (truth_connective k)) a b e = absurd (cc)
overflows_as (interpretation truth_negation) a b e = absurd (cc)
overflows_as (interpretation values_equal) a b e = absurd (cc)
overflows_as (interpretation values_different) a b e = absurd (cc)
overflows_as injection a b e = absurd (cc)
overflows_as construction a b e = absurd (cc)
overflows_as foreign a b e = absurd (cc)

kept_as : (g : KoreSignature) (f : Text) (m : SymbolMeaning) (a b : ℤ) → is_wide_of m a b ≡ true →
    made g m f (next_term (known (whole a)) (next_term (known (whole b)) no_terms)) ≡ headed f (next_term (known (whole a)) (next_term (known (whole b)) no_terms))
kept_as g f (interpretation h) a b e = ap (λ x. if x then headed f (next_term (known (whole a)) (next_term (known (whole b)) no_terms)) else known (interpreted h (two (whole a) (whole b)))) e
kept_as g f injection a b e = absurd (cc)
kept_as g f construction a b e = absurd (cc)
kept_as g f foreign a b e = absurd (cc)

is_kept : (g : KoreSignature) (c : WideCall) → is_wide_of (meaning_of g c.symbol) c.first c.second ≡ true → replaced g [] (term_of c) ≡ term_of c
is_kept g c e = kept_as g c.symbol (meaning_of g c.symbol) c.first c.second e

-- ---- it stands in the state

stands_first : (x : SymbolicTerm) (xs : List SymbolicTerm) → Contains (x ∷ xs) x
stands_first x xs = Contains-append_left (x ∷ []) xs x (Contains-push [] x)

-- a part of this one is the call
abbrev HoldsCall : KoreSignature → WideCall → SymbolicTerm → Type 0
HoldsCall g c q = Contains (parts_of (replaced g [] q)) (term_of c)

holds_itself : (g : KoreSignature) (c : WideCall) (t : SymbolicTerm) → IsWideTerm g c t → HoldsCall g c t
holds_itself g c t h = subst (HoldsCall g c) (sym h.is) (subst (λ x. Contains (parts_of x) (term_of c)) (sym (is_kept g c h.leaves)) (stands_first (term_of c) (all_parts_of (next_term (known (whole c.first)) (next_term (known (whole c.second)) no_terms)))))

record IsFound (g : KoreSignature) (c : WideCall) (ts : List SymbolicTerm) : Type 0 where
  pub stands : AnyByRecursion (HoldsCall g c) ts
  pub overflows : Overflows (meaning_of g c.symbol) c.first c.second

found_here : (g : KoreSignature) (c : WideCall) (t : SymbolicTerm) (ts : List SymbolicTerm) → wide_call g t ≡ Some c → IsFound g c (t ∷ ts)
found_here g c t ts e = let h = is_wide_term g t c e in record { stands = inl (holds_itself g c t h); overflows = overflows_as (meaning_of g c.symbol) c.first c.second h.leaves }

found_later : (g : KoreSignature) (c : WideCall) (t : SymbolicTerm) (ts : List SymbolicTerm) → IsFound g c ts → IsFound g c (t ∷ ts)
found_later g c t ts h = record { stands = inr h.stands; overflows = h.overflows }

found : (g : KoreSignature) (c : WideCall) (ts : List SymbolicTerm) → first_wide_among g ts ≡ Some c → IsFound g c ts
found g c [] e = absurd (cc)
found g c (t ∷ ts) e = by (wide_call g t) refl e (found g c ts)
  where
    by : (o : Option WideCall) → wide_call g t ≡ o → first_of o (first_wide_among g ts) ≡ Some c → (first_wide_among g ts ≡ Some c → IsFound g c ts) → IsFound g c (t ∷ ts)
    by (Some d) f q k = found_here g c t ts (f ∙ q)
    by None f q k = found_later g c t ts (k q)

pub wide_is_shown : (g : KoreSignature) (p : KorePattern) (s : SymbolicState) (c : WideCall) → first_wide g s ≡ Some c → IsShown g (simplify_situation p s) [] (λ v. ⊥) (wide_number c.symbol c.first c.second)
wide_is_shown g p s c e =
    let h = found g c (state_parts s) e in
    (h.overflows, subst (AnyByRecursion (HoldsCall g c)) (sym (append-nil (state_parts s))) h.stands)
