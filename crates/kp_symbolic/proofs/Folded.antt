-- A folded term has the instance of what it was folded from.
use Rattle.std.proofs.Common.{◌≡◌, refl, sym, ◌∙◌, ap, ap₂, subst, ℤ, pos, neg_ℤ, ◌+ℤ◌, Bool, true, false, List, [], Option, Some, None}
use Rattle.std.specs.Prelude.{if◌then◌else◌}
use Rattle.std.specs.Ordering.{int_eq}
use Rattle.std.specs.List.{AllByRecursion}
use Rattle.std.proofs.Math.IntN.{+ℤ_assoc, +ℤ_comm, +ℤ_idr}
use Rattle.std.proofs.lemmas.Bool.Decides.{Decides-int_eq}
use Rattle.kp_kore.specs.Syntax.{Text, KoreSort, KorePattern, KorePatterns, variable, application, no_patterns, next_pattern}
use Rattle.kp_kore.specs.Hooks.{addition, subtraction, Hook, whole_arithmetic}
use Rattle.kp_kore.specs.Parts.{SortedName, free_variables, all_free_variables}
use Rattle.kp_kore.specs.Signature.{KoreSignature, SymbolMeaning, injection, construction, interpretation, foreign, meaning_of, is_number_sort}
use Rattle.kp_kore.specs.Value.{Value, whole, constructed, Values, next_value, HasSort}
use Rattle.kp_kore.specs.Forms.{two}
use Rattle.kp_kore.specs.Interpretation.{interpreted}
use Rattle.kp_kore.specs.Instance.{Valuation, GivesSorts, applied, instance, instances}
use Rattle.kp_kore.specs.Replies.{is_wide_value}
use Rattle.kp_signature.proofs.NumberLemmas.{number_value}
use Rattle.kp_symbolic.specs.Terms.{SymbolicTerm, unknown, offset, known, headed, SymbolicTerms, no_terms, next_term, term_instance, term_instances, term_variables, all_term_variables, Replaced, replacement_for, under_replaced}
use Rattle.kp_symbolic.specs.States.{variables_for, AreGiven}
use Rattle.kp_symbolic.specs.Folding.{Sum, sum_of, can_be_added, summed, summed_call, with_first, values_known, only_term, made_construction, made_call, made, applied_term, term_for, folded, all_folded}
use Rattle.kp_symbolic.proofs.Distribution.{all_both, all_first, all_second}

-- ---- arguments that are all known

known_next : (g : KoreSignature) (v : Valuation) (u : Value) (ts : SymbolicTerms) (os : Option Values) (us : Values) → ((ws : Values) → os ≡ Some ws → term_instances g v ts ≡ ws) → with_first (Some u) os ≡ Some us → next_value u (term_instances g v ts) ≡ us
known_next g v u ts (Some ws) us i e = let f : term_instances g v ts ≡ ws = i ws refl in cc
known_next g v u ts None us i e = absurd (cc)

pub known_are : (g : KoreSignature) (v : Valuation) (ts : SymbolicTerms) (us : Values) → values_known ts ≡ Some us → term_instances g v ts ≡ us
known_are g v no_terms us e = cc
known_are g v (next_term (known u) ts) us e = known_next g v u ts (values_known ts) us (known_are g v ts) e
known_are g v (next_term (unknown x) ts) us e = absurd (cc)
known_are g v (next_term (offset x c) ts) us e = absurd (cc)
known_are g v (next_term (headed f us) ts) vs e = absurd (cc)

-- ---- sums

-- the term is the sum of the variable, which stands for a whole number, and the constant
pub record IsSum (g : KoreSignature) (v : Valuation) (t : SymbolicTerm) (s : Sum) : Type 0 where
  pub number : ℤ
  pub is : v s.variable.name ≡ whole number
  pub value : term_instance g v t ≡ whole (number +ℤ s.constant)

nothing_added : (n : ℤ) → n ≡ n +ℤ pos 0
nothing_added n = sym (+ℤ_idr n)

sum_at : (g : KoreSignature) (v : Valuation) (t : SymbolicTerm) (x : SortedName) (c : ℤ) (s : Sum) (b : Bool) → is_number_sort g x.sort ≡ b → (b ≡ true → IsSum g v t (record { variable = x; constant = c })) → (if b then Some (record { variable = x; constant = c }) else None) ≡ Some s → IsSum g v t s
sum_at g v t x c s true e h q = subst (IsSum g v t) (some_inside q) (h refl)
  where
    some_inside : {A : Type 0} {a b : A} → Some a ≡ Some b → a ≡ b
    some_inside e = cc
sum_at g v t x c s false e h q = absurd (cc)

pub sum_is : (g : KoreSignature) (v : Valuation) (t : SymbolicTerm) (s : Sum) → GivesSorts g v (term_variables t) → sum_of g t ≡ Some s → IsSum g v t s
sum_is g v (unknown x) s h e = sum_at g v (unknown x) x (pos 0) s (is_number_sort g x.sort) refl (λ i. of (number_value g x.sort (v x.name) i h.0)) e
  where
    of : ((n : ℤ) × (v x.name ≡ whole n)) → IsSum g v (unknown x) (record { variable = x; constant = pos 0 })
    of w = record { number = w.0; is = w.1; value = w.1 ∙ ap whole (nothing_added w.0) }
sum_is g v (offset x c) s h e = sum_at g v (offset x c) x c s (is_number_sort g x.sort) refl (λ i. of (number_value g x.sort (v x.name) i h.0)) e
  where
    of : ((n : ℤ) × (v x.name ≡ whole n)) → IsSum g v (offset x c) (record { variable = x; constant = c })
    of w = record { number = w.0; is = w.1; value = ap (λ u. interpreted (whole_arithmetic addition) (two u (whole c))) w.1 }
sum_is g v (known u) s h e = absurd (cc)
sum_is g v (headed f ts) s h e = absurd (cc)

-- a further constant
three_added : (n a c : ℤ) → n +ℤ (a +ℤ c) ≡ (n +ℤ a) +ℤ c
three_added n a c = sym (+ℤ_assoc n a c)

at_constant : (g : KoreSignature) (v : Valuation) (x : SortedName) (n k : ℤ) (call : SymbolicTerm) (b d : Bool) → v x.name ≡ whole n → (b ≡ true → k ≡ pos 0) → term_instance g v call ≡ whole (n +ℤ k) → term_instance g v (if b then unknown x else if d then offset x k else call) ≡ whole (n +ℤ k)
at_constant g v x n k call true d w z e = w ∙ ap whole (nothing_added n ∙ ap (λ m. n +ℤ m) (sym (z refl)))
at_constant g v x n k call false true w z e = ap (λ u. interpreted (whole_arithmetic addition) (two u (whole k))) w
at_constant g v x n k call false false w z e = e

pub summed_is : (g : KoreSignature) (v : Valuation) (t : SymbolicTerm) (o : Option Sum) (c : ℤ) (call : SymbolicTerm) (u : Value) → ((s : Sum) → o ≡ Some s → IsSum g v t s) → ((m : ℤ) → term_instance g v t ≡ whole m → u ≡ whole (m +ℤ c)) → term_instance g v call ≡ u → term_instance g v (summed g o c call) ≡ u
summed_is g v t None c call u i w e = e
summed_is g v t (Some s) c call u i w e = of (i s refl)
  where
    of : IsSum g v t s → term_instance g v (summed g (Some s) c call) ≡ u
    of p =
        let q : u ≡ whole (p.number +ℤ (s.constant +ℤ c)) = w (p.number +ℤ s.constant) p.value ∙ ap whole (sym (three_added p.number s.constant c)) in
        at_constant g v s.variable p.number (s.constant +ℤ c) call (int_eq (s.constant +ℤ c) (pos 0)) (can_be_added g (s.constant +ℤ c)) p.is ((Decides-int_eq (s.constant +ℤ c) (pos 0)).0) (e ∙ q) ∙ sym q

-- ---- calls

-- what is said of a call of two arguments: where one is known, the other is a sum or not
pub summed_call_is : (g : KoreSignature) (v : Valuation) (h : Hook) (ts : SymbolicTerms) (call : SymbolicTerm) → GivesSorts g v (all_term_variables ts) → term_instance g v call ≡ interpreted h (term_instances g v ts) → term_instance g v (summed_call g h ts call) ≡ interpreted h (term_instances g v ts)
summed_call_is g v (whole_arithmetic addition) (next_term t (next_term (known (whole c)) no_terms)) call a e =
    summed_is g v t (sum_of g t) c call (interpreted (whole_arithmetic addition) (two (term_instance g v t) (whole c))) (λ s. sum_is g v t s (all_first (λ x. HasSort g x.sort (v x.name)) (term_variables t) [] a))
    (λ m q. ap (λ u. interpreted (whole_arithmetic addition) (two u (whole c))) q) e
summed_call_is g v (whole_arithmetic addition) (next_term (known (whole c)) (next_term t no_terms)) call a e =
    summed_is g v t (sum_of g t) c call (interpreted (whole_arithmetic addition) (two (whole c) (term_instance g v t))) (λ s. sum_is g v t s (all_first (λ x. HasSort g x.sort (v x.name)) (term_variables t) [] a))
    (λ m q. ap (λ u. interpreted (whole_arithmetic addition) (two (whole c) u)) q ∙ ap whole (+ℤ_comm c m)) e
summed_call_is g v (whole_arithmetic subtraction) (next_term t (next_term (known (whole c)) no_terms)) call a e =
    summed_is g v t (sum_of g t) (neg_ℤ c) call (interpreted (whole_arithmetic subtraction) (two (term_instance g v t) (whole c))) (λ s. sum_is g v t s (all_first (λ x. HasSort g x.sort (v x.name)) (term_variables t) [] a))
    (λ m q. ap (λ u. interpreted (whole_arithmetic subtraction) (two u (whole c))) q) e
summed_call_is g v h ts call a e = e

by_width : (g : KoreSignature) (v : Valuation) (h : Hook) (f : Text) (ts : SymbolicTerms) (us : Values) (b : Bool) → meaning_of g f ≡ interpretation h → term_instances g v ts ≡ us → term_instance g v (if b then headed f ts else known (interpreted h us)) ≡ interpreted h (term_instances g v ts)
by_width g v h f ts us true m e = rw m refl
by_width g v h f ts us false m e = ap (interpreted h) (sym e)

call_is : (g : KoreSignature) (v : Valuation) (h : Hook) (f : Text) (ts : SymbolicTerms) (o : Option Values) → GivesSorts g v (all_term_variables ts) → meaning_of g f ≡ interpretation h → ((us : Values) → o ≡ Some us → term_instances g v ts ≡ us) → term_instance g v (made_call g h f ts o) ≡ interpreted h (term_instances g v ts)
call_is g v h f ts (Some us) a m k = by_width g v h f ts us (is_wide_value (interpreted h us)) m (k us refl)
call_is g v h f ts None a m k = summed_call_is g v h ts (headed f ts) a (rw m refl)

construction_is : (g : KoreSignature) (v : Valuation) (f : Text) (ts : SymbolicTerms) (o : Option Values) → meaning_of g f ≡ construction → ((us : Values) → o ≡ Some us → term_instances g v ts ≡ us) → term_instance g v (made_construction f ts o) ≡ constructed f (term_instances g v ts)
construction_is g v f ts (Some us) m k = ap (constructed f) (sym (k us refl))
construction_is g v f ts None m k = rw m refl

injection_is : (g : KoreSignature) (v : Valuation) (f : Text) (ts : SymbolicTerms) → term_instance g v (only_term ts) ≡ applied injection f (term_instances g v ts)
injection_is g v f no_terms = refl
injection_is g v f (next_term t no_terms) = refl
injection_is g v f (next_term t (next_term u ts)) = refl

made_is : (g : KoreSignature) (v : Valuation) (m : SymbolMeaning) (f : Text) (ts : SymbolicTerms) → GivesSorts g v (all_term_variables ts) → meaning_of g f ≡ m → term_instance g v (made g m f ts) ≡ applied m f (term_instances g v ts)
made_is g v injection f ts a e = injection_is g v f ts
made_is g v construction f ts a e = construction_is g v f ts (values_known ts) e (known_are g v ts)
made_is g v (interpretation h) f ts a e = call_is g v h f ts (values_known ts) a e (known_are g v ts)
made_is g v foreign f ts a e = rw e refl

-- an application over folded arguments
pub applied_is : (g : KoreSignature) (v : Valuation) (f : Text) (ts : SymbolicTerms) → GivesSorts g v (all_term_variables ts) → term_instance g v (applied_term g f ts) ≡ applied (meaning_of g f) f (term_instances g v ts)
applied_is g v f ts a = made_is g v (meaning_of g f) f ts a refl

-- ---- what holds of the variables of the arguments holds of those of the application

first_of_sum : (Q : SortedName → Type 0) (x : SortedName) (k : ℤ) (call : SymbolicTerm) (b d : Bool) → Q x → AllByRecursion Q (term_variables call) → AllByRecursion Q (term_variables (if b then unknown x else if d then offset x k else call))
first_of_sum Q x k call true d q a = (q, tt)
first_of_sum Q x k call false true q a = (q, tt)
first_of_sum Q x k call false false q a = a

sum_among : (g : KoreSignature) (Q : SortedName → Type 0) (x : SortedName) (c : ℤ) (s : Sum) (b : Bool) → Q x → (if b then Some (record { variable = x; constant = c }) else None) ≡ Some s → Q s.variable
sum_among g Q x c s true q e = let f : x ≡ s.variable = cc in subst Q f q
sum_among g Q x c s false q e = absurd (cc)

sum_variable : (g : KoreSignature) (Q : SortedName → Type 0) (t : SymbolicTerm) (s : Sum) → AllByRecursion Q (term_variables t) → sum_of g t ≡ Some s → Q s.variable
sum_variable g Q (unknown x) s a e = sum_among g Q x (pos 0) s (is_number_sort g x.sort) a.0 e
sum_variable g Q (offset x c) s a e = sum_among g Q x c s (is_number_sort g x.sort) a.0 e
sum_variable g Q (known u) s a e = absurd (cc)
sum_variable g Q (headed f ts) s a e = absurd (cc)

summed_variables : (g : KoreSignature) (Q : SortedName → Type 0) (o : Option Sum) (c : ℤ) (call : SymbolicTerm) → ((s : Sum) → o ≡ Some s → Q s.variable) → AllByRecursion Q (term_variables call) → AllByRecursion Q (term_variables (summed g o c call))
summed_variables g Q (Some s) c call q a = first_of_sum Q s.variable (s.constant +ℤ c) call (int_eq (s.constant +ℤ c) (pos 0)) (can_be_added g (s.constant +ℤ c)) (q s refl) a
summed_variables g Q None c call q a = a

summed_call_variables : (g : KoreSignature) (Q : SortedName → Type 0) (h : Hook) (ts : SymbolicTerms) (call : SymbolicTerm) → AllByRecursion Q (all_term_variables ts) → AllByRecursion Q (term_variables call) → AllByRecursion Q (term_variables (summed_call g h ts call))
summed_call_variables g Q (whole_arithmetic addition) (next_term t (next_term (known (whole c)) no_terms)) call a b = summed_variables g Q (sum_of g t) c call (λ s. sum_variable g Q t s (all_first Q (term_variables t) [] a)) b
summed_call_variables g Q (whole_arithmetic addition) (next_term (known (whole c)) (next_term t no_terms)) call a b = summed_variables g Q (sum_of g t) c call (λ s. sum_variable g Q t s (all_first Q (term_variables t) [] a)) b
summed_call_variables g Q (whole_arithmetic subtraction) (next_term t (next_term (known (whole c)) no_terms)) call a b = summed_variables g Q (sum_of g t) (neg_ℤ c) call (λ s. sum_variable g Q t s (all_first Q (term_variables t) [] a)) b
summed_call_variables g Q h ts call a b = b

width_variables : (Q : SortedName → Type 0) (h : Hook) (f : Text) (ts : SymbolicTerms) (us : Values) (b : Bool) → AllByRecursion Q (all_term_variables ts) → AllByRecursion Q (term_variables (if b then headed f ts else known (interpreted h us)))
width_variables Q h f ts us true a = a
width_variables Q h f ts us false a = tt

call_variables : (g : KoreSignature) (Q : SortedName → Type 0) (h : Hook) (f : Text) (ts : SymbolicTerms) (o : Option Values) → AllByRecursion Q (all_term_variables ts) → AllByRecursion Q (term_variables (made_call g h f ts o))
call_variables g Q h f ts (Some us) a = width_variables Q h f ts us (is_wide_value (interpreted h us)) a
call_variables g Q h f ts None a = summed_call_variables g Q h ts (headed f ts) a a

construction_variables : (Q : SortedName → Type 0) (f : Text) (ts : SymbolicTerms) (o : Option Values) → AllByRecursion Q (all_term_variables ts) → AllByRecursion Q (term_variables (made_construction f ts o))
construction_variables Q f ts (Some us) a = tt
construction_variables Q f ts None a = a

injection_variables : (Q : SortedName → Type 0) (ts : SymbolicTerms) → AllByRecursion Q (all_term_variables ts) → AllByRecursion Q (term_variables (only_term ts))
injection_variables Q no_terms a = tt
injection_variables Q (next_term t no_terms) a = all_first Q (term_variables t) [] a
injection_variables Q (next_term t (next_term u ts)) a = tt

made_variables : (g : KoreSignature) (Q : SortedName → Type 0) (m : SymbolMeaning) (f : Text) (ts : SymbolicTerms) → AllByRecursion Q (all_term_variables ts) → AllByRecursion Q (term_variables (made g m f ts))
made_variables g Q injection f ts a = injection_variables Q ts a
made_variables g Q construction f ts a = construction_variables Q f ts (values_known ts) a
made_variables g Q (interpretation h) f ts a = call_variables g Q h f ts (values_known ts) a
made_variables g Q foreign f ts a = a

pub applied_variables : (g : KoreSignature) (Q : SortedName → Type 0) (f : Text) (ts : SymbolicTerms) → AllByRecursion Q (all_term_variables ts) → AllByRecursion Q (term_variables (applied_term g f ts))
applied_variables g Q f ts a = made_variables g Q (meaning_of g f) f ts a

-- ---- folding

-- of the variables that these stand for
abbrev pub OfEach : List Replaced → (SortedName → Type 0) → List SortedName → Type 0
OfEach rs Q = AllByRecursion (λ x. AllByRecursion Q (variables_for x (replacement_for rs x.name)))

pub for_variables : (Q : SortedName → Type 0) (x : SortedName) (o : Option SymbolicTerm) → AllByRecursion Q (variables_for x o) → AllByRecursion Q (term_variables (term_for x o))
for_variables Q x (Some t) a = a
for_variables Q x None a = a

mutual
  pub folded_variables : (g : KoreSignature) (rs : List Replaced) (Q : SortedName → Type 0) (p : KorePattern) → OfEach rs Q (free_variables p) → AllByRecursion Q (term_variables (folded g rs p))
  folded_variables g rs Q (variable x s) a = for_variables Q (record { name = x; sort = s }) (replacement_for rs x) a.0
  folded_variables g rs Q (application f ss ps) a = applied_variables g Q f (all_folded g rs ps) (all_folded_variables g rs Q ps a)
  folded_variables g rs Q _ a = tt

  pub all_folded_variables : (g : KoreSignature) (rs : List Replaced) (Q : SortedName → Type 0) (ps : KorePatterns) → OfEach rs Q (all_free_variables ps) → AllByRecursion Q (all_term_variables (all_folded g rs ps))
  all_folded_variables g rs Q no_patterns a = tt
  all_folded_variables g rs Q (next_pattern p ps) a = all_both Q (term_variables (folded g rs p)) (all_term_variables (all_folded g rs ps))
      (folded_variables g rs Q p (all_first (λ x. AllByRecursion Q (variables_for x (replacement_for rs x.name))) (free_variables p) (all_free_variables ps) a))
      (all_folded_variables g rs Q ps (all_second (λ x. AllByRecursion Q (variables_for x (replacement_for rs x.name))) (free_variables p) (all_free_variables ps) a))

pub for_instance : (g : KoreSignature) (rs : List Replaced) (v : Valuation) (x : Text) (s : KoreSort) (o : Option SymbolicTerm) → replacement_for rs x ≡ o → term_instance g v (term_for (record { name = x; sort = s }) o) ≡ under_replaced g rs v x
for_instance g rs v x s (Some t) e = rw e refl
for_instance g rs v x s None e = rw e refl

mutual
  pub folded_is : (g : KoreSignature) (rs : List Replaced) (v : Valuation) (p : KorePattern) → AreGiven g rs v (free_variables p) → term_instance g v (folded g rs p) ≡ instance g (under_replaced g rs v) p
  folded_is g rs v (variable x s) a = for_instance g rs v x s (replacement_for rs x) refl
  folded_is g rs v (application f ss ps) a = applied_is g v f (all_folded g rs ps) (all_folded_variables g rs (λ x. HasSort g x.sort (v x.name)) ps a) ∙ ap (applied (meaning_of g f) f) (all_folded_is g rs v ps a)
  folded_is g rs v _ a = refl

  pub all_folded_is : (g : KoreSignature) (rs : List Replaced) (v : Valuation) (ps : KorePatterns) → AreGiven g rs v (all_free_variables ps) → term_instances g v (all_folded g rs ps) ≡ instances g (under_replaced g rs v) ps
  all_folded_is g rs v no_patterns a = refl
  all_folded_is g rs v (next_pattern p ps) a = ap₂ next_value
      (folded_is g rs v p (all_first (λ x. GivesSorts g v (variables_for x (replacement_for rs x.name))) (free_variables p) (all_free_variables ps) a))
      (all_folded_is g rs v ps (all_second (λ x. GivesSorts g v (variables_for x (replacement_for rs x.name))) (free_variables p) (all_free_variables ps) a))
