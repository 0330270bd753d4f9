-- A constructor that doesn't stand in terms doesn't stand in what they are folded to, nor in parts of them.
use Rattle.std.proofs.Common.{◌≡◌, refl, sym, ◌∙◌, subst, ℤ, pos, Bool, true, false, Option, Some, None}
use Rattle.std.specs.Prelude.{if◌then◌else◌, neg_ℤ, ◌+ℤ◌, int_lt}
use Rattle.std.specs.Ordering.{int_eq}
use Rattle.std.specs.Str.{bytes_eq}
use Rattle.kp_kore.specs.Syntax.{Text}
use Rattle.kp_kore.specs.Hooks.{Arithmetic, addition, subtraction, Hook, whole_arithmetic, whole_comparison, truth_connective, truth_negation, values_equal, values_different}
use Rattle.kp_kore.specs.Parts.{SortedName}
use Rattle.kp_kore.specs.Signature.{KoreSignature, SymbolMeaning, injection, construction, interpretation, foreign, meaning_of}
use Rattle.kp_kore.specs.Value.{Value, whole, truth, Values, no_values, next_value}
use Rattle.kp_kore.specs.Interpretation.{interpreted}
use Rattle.kp_kore.specs.Replies.{is_wide_value}
use Rattle.kp_symbolic.specs.Terms.{SymbolicTerm, unknown, offset, known, headed, SymbolicTerms, no_terms, next_term}
use Rattle.kp_symbolic.specs.Folding.{least_symbol, Sum, sum_of, can_be_added, summed, summed_call, with_first, values_known, only_term, made_construction, made_call, made, applied_term, term_for, under_symbol, added, replaced, all_replaced}
use Rattle.kp_symbolic.specs.Solving.{Equation, replacement}
use Rattle.kp_symbolic.proofs.Replacing.{least_is}
use Rattle.kp_source_laws.specs.Symbols.{AvoidsValue, AvoidValues, AvoidsTerm, AvoidTerms}

some_inside : {A : Type 0} {a b : A} → Some a ≡ Some b → a ≡ b
some_inside e = cc

none_is_some : {A : Type 0} {a : A} → None ≡ Some a → ⊥
none_is_some e = cc

-- ---- values

interpreted_avoids : (f : Text) (h : Hook) (us : Values) → AvoidsValue f (interpreted h us)
interpreted_avoids f (whole_arithmetic a) (next_value (whole m) (next_value (whole n) no_values)) = tt
interpreted_avoids f (whole_comparison c) (next_value (whole m) (next_value (whole n) no_values)) = tt
interpreted_avoids f (truth_connective c) (next_value (truth a) (next_value (truth b) no_values)) = tt
interpreted_avoids f truth_negation (next_value (truth a) no_values) = tt
interpreted_avoids f values_equal (next_value u (next_value v no_values)) = tt
interpreted_avoids f values_different (next_value u (next_value v no_values)) = tt
interpreted_avoids f _ _ = tt

first_avoids : (f : Text) (u : Value) (o : Option Values) (us : Values) → AvoidsValue f u → ((vs : Values) → o ≡ Some vs → AvoidValues f vs) → with_first (Some u) o ≡ Some us → AvoidValues f us
first_avoids f u (Some vs) us a k e = subst (AvoidValues f) (some_inside e) (a, k vs refl)
first_avoids f u None us a k e = absurd (none_is_some e)

values_avoid : (f : Text) (ts : SymbolicTerms) (us : Values) → AvoidTerms f ts → values_known ts ≡ Some us → AvoidValues f us
values_avoid f no_terms us a e = subst (AvoidValues f) (some_inside e) tt
values_avoid f (next_term (known u) ts) us a e = first_avoids f u (values_known ts) us a.0 (λ vs i. values_avoid f ts vs a.1 i) e
values_avoid f (next_term (unknown x) ts) us a e = absurd (none_is_some e)
values_avoid f (next_term (offset x c) ts) us a e = absurd (none_is_some e)
values_avoid f (next_term (headed h vs) ts) us a e = absurd (none_is_some e)

-- and the other way
first_known : (f : Text) (u : Value) (o : Option Values) (us : Values) (P : Type 0) → ((vs : Values) → o ≡ Some vs → AvoidValues f vs → P) → with_first (Some u) o ≡ Some us → AvoidValues f us → AvoidsValue f u × P
first_known f u (Some vs) us P k e a = let b : AvoidValues f (next_value u vs) = subst (AvoidValues f) (sym (some_inside e)) a in (b.0, k vs refl b.1)
first_known f u None us P k e a = absurd (none_is_some e)

terms_avoid : (f : Text) (ts : SymbolicTerms) (us : Values) → values_known ts ≡ Some us → AvoidValues f us → AvoidTerms f ts
terms_avoid f no_terms us e a = tt
terms_avoid f (next_term (known u) ts) us e a = first_known f u (values_known ts) us (AvoidTerms f ts) (λ vs i b. terms_avoid f ts vs i b) e a
terms_avoid f (next_term (unknown x) ts) us e a = absurd (none_is_some e)
terms_avoid f (next_term (offset x c) ts) us e a = absurd (none_is_some e)
terms_avoid f (next_term (headed h vs) ts) us e a = absurd (none_is_some e)

-- ---- applications

only_avoids : (f : Text) (ts : SymbolicTerms) → AvoidTerms f ts → AvoidsTerm f (only_term ts)
only_avoids f no_terms a = tt
only_avoids f (next_term t no_terms) a = a.0
only_avoids f (next_term t (next_term u ts)) a = tt

construction_avoids : (f h : Text) (ts : SymbolicTerms) (o : Option Values) → values_known ts ≡ o → ¬ (h ≡ f) → AvoidTerms f ts → AvoidsTerm f (made_construction h ts o)
construction_avoids f h ts (Some us) e n a = (n, values_avoid f ts us a e)
construction_avoids f h ts None e n a = (n, a)

sum_avoids : (g : KoreSignature) (f : Text) (o : Option Sum) (c : ℤ) (call : SymbolicTerm) → AvoidsTerm f call → AvoidsTerm f (summed g o c call)
sum_avoids g f (Some s) c call k = by (int_eq (s.constant +ℤ c) (pos 0)) (can_be_added g (s.constant +ℤ c))
  where
    by : (a b : Bool) → AvoidsTerm f (if a then unknown s.variable else if b then offset s.variable (s.constant +ℤ c) else call)
    by true b = tt
    by false true = tt
    by false false = k
sum_avoids g f None c call k = k

summed_avoids : (g : KoreSignature) (f : Text) (h : Hook) (ts : SymbolicTerms) (call : SymbolicTerm) → AvoidsTerm f call → AvoidsTerm f (summed_call g h ts call)
summed_avoids g f (whole_arithmetic addition) (next_term t (next_term (known (whole c)) no_terms)) call k = sum_avoids g f (sum_of g t) c call k
summed_avoids g f (whole_arithmetic addition) (next_term (known (whole c)) (next_term t no_terms)) call k = sum_avoids g f (sum_of g t) c call k
summed_avoids g f (whole_arithmetic subtraction) (next_term t (next_term (known (whole c)) no_terms)) call k = sum_avoids g f (sum_of g t) (neg_ℤ c) call k
summed_avoids g f h ts call k = k

call_avoids : (g : KoreSignature) (f : Text) (q : Hook) (h : Text) (ts : SymbolicTerms) (o : Option Values) → ¬ (h ≡ f) → AvoidTerms f ts → AvoidsTerm f (made_call g q h ts o)
call_avoids g f q h ts (Some us) n a = by (is_wide_value (interpreted q us))
  where
    by : (b : Bool) → AvoidsTerm f (if b then headed h ts else known (interpreted q us))
    by true = (n, a)
    by false = interpreted_avoids f q us
call_avoids g f q h ts None n a = summed_avoids g f q ts (headed h ts) (n, a)

made_avoids : (g : KoreSignature) (f : Text) (m : SymbolMeaning) (h : Text) (ts : SymbolicTerms) → ¬ (h ≡ f) → AvoidTerms f ts → AvoidsTerm f (made g m h ts)
made_avoids g f injection h ts n a = only_avoids f ts a
made_avoids g f construction h ts n a = construction_avoids f h ts (values_known ts) refl n a
made_avoids g f (interpretation q) h ts n a = call_avoids g f q h ts (values_known ts) n a
made_avoids g f foreign h ts n a = (n, a)

pub applied_avoids : (g : KoreSignature) (f h : Text) (ts : SymbolicTerms) → ¬ (h ≡ f) → AvoidTerms f ts → AvoidsTerm f (applied_term g h ts)
applied_avoids g f h ts n a = made_avoids g f (meaning_of g h) h ts n a

-- the arguments of a constructor
pub arguments_avoid : (g : KoreSignature) (f c : Text) (ts : SymbolicTerms) → meaning_of g c ≡ construction → AvoidsTerm f (applied_term g c ts) → AvoidTerms f ts
arguments_avoid g f c ts m a = by (values_known ts) refl (subst (λ x. AvoidsTerm f (made g x c ts)) m a)
  where
    by : (o : Option Values) → values_known ts ≡ o → AvoidsTerm f (made_construction c ts o) → AvoidTerms f ts
    by (Some us) e k = terms_avoid f ts us e k.1
    by None e k = k.1

-- ---- a term in a variable's place

for_avoids : (f : Text) (e : Equation) (x : SortedName) (b : Bool) → AvoidsTerm f e.term → AvoidsTerm f (term_for x (if b then Some e.term else None))
for_avoids f e x true k = k
for_avoids f e x false k = tt

under_avoids : (g : KoreSignature) (f : Text) (a : Arithmetic) (o : Option Text) (t : SymbolicTerm) (n : ℤ) (otherwise : SymbolicTerm) → meaning_of g f ≡ construction → least_symbol g a ≡ o → AvoidsTerm f t → AvoidsTerm f otherwise → AvoidsTerm f (under_symbol g o t n otherwise)
under_avoids g f a (Some h) t n otherwise m e k i = applied_avoids g f h (next_term t (next_term (known (whole n)) no_terms)) (λ s. differ (sym m ∙ subst (λ x. meaning_of g x ≡ interpretation (whole_arithmetic a)) s (least_is g a g.symbols h e))) (k, (tt, tt))
  where
    differ : construction ≡ interpretation (whole_arithmetic a) → ⊥
    differ e = cc
under_avoids g f a None t n otherwise m e k i = i

added_avoids : (g : KoreSignature) (f : Text) (t : SymbolicTerm) (c : ℤ) (otherwise : SymbolicTerm) → meaning_of g f ≡ construction → AvoidsTerm f t → AvoidsTerm f otherwise → AvoidsTerm f (added g t c otherwise)
added_avoids g f t c otherwise m k i = by (int_lt (pos 0) c)
  where
    by : (b : Bool) → AvoidsTerm f (if b then under_symbol g (least_symbol g addition) t c otherwise else under_symbol g (least_symbol g subtraction) t (neg_ℤ c) otherwise)
    by true = under_avoids g f addition (least_symbol g addition) t c otherwise m refl k i
    by false = under_avoids g f subtraction (least_symbol g subtraction) t (neg_ℤ c) otherwise m refl k i

mutual
  pub put_avoids : (g : KoreSignature) (f : Text) (e : Equation) (t : SymbolicTerm) → meaning_of g f ≡ construction → AvoidsTerm f e.term → AvoidsTerm f t → AvoidsTerm f (replaced g (replacement e) t)
  put_avoids g f e (unknown x) m k a = for_avoids f e x (bytes_eq e.variable.name x.name) k
  put_avoids g f e (offset x c) m k a = added_avoids g f (term_for x (if bytes_eq e.variable.name x.name then Some e.term else None)) c (offset x c) m (for_avoids f e x (bytes_eq e.variable.name x.name) k) tt
  put_avoids g f e (known u) m k a = a
  put_avoids g f e (headed h ts) m k a = applied_avoids g f h (all_replaced g (replacement e) ts) a.0 (all_put_avoid g f e ts m k a.1)

  all_put_avoid : (g : KoreSignature) (f : Text) (e : Equation) (ts : SymbolicTerms) → meaning_of g f ≡ construction → AvoidsTerm f e.term → AvoidTerms f ts → AvoidTerms f (all_replaced g (replacement e) ts)
  all_put_avoid g f e no_terms m k a = tt
  all_put_avoid g f e (next_term t ts) m k a = (put_avoids g f e t m k a.0, all_put_avoid g f e ts m k a.1)
