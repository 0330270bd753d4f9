-- Equality of constructor terms member by member, and what is never equal.
use Rattle.std.proofs.Common.{◌≡◌, refl, sym, ◌∙◌, ap, subst, ℤ, ◌+ℤ◌, ◌-ℤ◌, ℕ, suc, ◌+◌, ◌≤◌, arith, Bool, true, false, not, ◌||◌, Option, Some, None}
use Rattle.std.specs.Prelude.{if◌then◌else◌}
use Rattle.std.specs.Bool.{beq}
use Rattle.std.specs.Ordering.{int_eq}
use Rattle.std.specs.Str.{bytes_eq}
use Rattle.std.proofs.Math.IntN.{+ℤ_comm, +ℤ-neg_ℤ_cancel}
use Rattle.std.proofs.lemmas.Slice.Eq.{bytes_eq-Decides}
use Rattle.std.proofs.lemmas.Bool.Decides.{Decides-int_eq}
use Rattle.kp_kore.specs.Syntax.{Text}
use Rattle.kp_kore.specs.Hooks.{Comparison, equal}
use Rattle.kp_kore.specs.Signature.{KoreSignature, SymbolMeaning, injection, construction, interpretation, foreign, meaning_of}
use Rattle.kp_kore.specs.Value.{Value, whole, truth, token, constructed, Values, no_values, next_value}
use Rattle.kp_kore.specs.Interpretation.{compared}
use Rattle.kp_kore.specs.Instance.{Valuation, GivesSorts, applied}
use Rattle.kp_kore.proofs.SameLemmas.{same_values_decide}
use Rattle.kp_kore.proofs.InstanceLemmas.{first_true, second_true}
use Rattle.kp_symbolic.specs.Terms.{SymbolicTerm, unknown, offset, known, headed, SymbolicTerms, no_terms, next_term, term_instance, term_instances, term_variables}
use Rattle.kp_symbolic.specs.Formulas.{Formula}
use Rattle.kp_symbolic.specs.States.{Literal, IsLiteralTrue}
use Rattle.kp_symbolic.specs.Alike.{terms_same}
use Rattle.kp_symbolic.specs.Folding.{Sum, sum_of}
use Rattle.kp_symbolic.specs.Heads.{is_construction}
use Rattle.kp_symbolic.specs.Opening.{fixed, compared_at_once, fixed_or, holds_name, some_hold_name, is_never, unconstructed}
use Rattle.kp_symbolic.proofs.Opened.{fixed_says, never_says}
use Rattle.kp_symbolic.proofs.Folded.{IsSum, sum_is}
use Rattle.kp_symbolic.proofs.SeenLemmas.{Says, IsUnmade, IsMade}

-- ---- a value isn't inside itself

abbrev mutual
  size : Value → ℕ
  size (whole n) = 1
  size (truth b) = 1
  size (token s x) = 1
  size (constructed c us) = suc (all_sizes us)

  all_sizes : Values → ℕ
  all_sizes no_values = 0
  all_sizes (next_value u us) = size u + all_sizes us

pub construction_is_meant : (m : SymbolMeaning) → is_construction m ≡ true → m ≡ construction
construction_is_meant construction e = refl
construction_is_meant injection e = absurd (cc)
construction_is_meant (interpretation h) e = absurd (cc)
construction_is_meant foreign e = absurd (cc)

made_by : (g : KoreSignature) (v : Valuation) (f : Text) (ts : SymbolicTerms) → is_construction (meaning_of g f) ≡ true → term_instance g v (headed f ts) ≡ constructed f (term_instances g v ts)
made_by g v f ts e = ap (λ m. applied m f (term_instances g v ts)) (construction_is_meant (meaning_of g f) e)

either_is : (a b : Bool) (C : Type 0) → (a ≡ true → C) → (b ≡ true → C) → a || b ≡ true → C
either_is true b C f h e = f refl
either_is false b C f h e = h e

mutual
  held_size : (g : KoreSignature) (v : Valuation) (x : Text) (t : SymbolicTerm) → holds_name g x t ≡ true → size (v x) ≤ size (term_instance g v t)
  held_size g v x (unknown y) e = let n : x ≡ y.name = (bytes_eq-Decides x y.name).0 e in subst (λ z. size (v x) ≤ size (v z)) n (omega arith)
  held_size g v x (headed f ts) e =
      let i : size (v x) ≤ all_sizes (term_instances g v ts) = some_held_size g v x ts (second_true (is_construction (meaning_of g f)) (some_hold_name g x ts) e) in
      subst (λ u. size (v x) ≤ size u) (sym (made_by g v f ts (first_true (is_construction (meaning_of g f)) (some_hold_name g x ts) e))) (up i)
    where
      up : {m n : ℕ} → m ≤ n → m ≤ suc n
      up h = omega arith
  held_size g v x (offset y c) e = absurd (cc)
  held_size g v x (known u) e = absurd (cc)

  some_held_size : (g : KoreSignature) (v : Valuation) (x : Text) (ts : SymbolicTerms) → some_hold_name g x ts ≡ true → size (v x) ≤ all_sizes (term_instances g v ts)
  some_held_size g v x no_terms e = absurd (cc)
  some_held_size g v x (next_term t ts) e = either_is (holds_name g x t) (some_hold_name g x ts) (size (v x) ≤ size (term_instance g v t) + all_sizes (term_instances g v ts))
      (λ h. let i : size (v x) ≤ size (term_instance g v t) = held_size g v x t h in omega arith)
      (λ h. let i : size (v x) ≤ all_sizes (term_instances g v ts) = some_held_size g v x ts h in omega arith) e

-- a constructor's application and a variable inside it
inside_differs : (g : KoreSignature) (v : Valuation) (x : Text) (f : Text) (ts : SymbolicTerms) → holds_name g x (headed f ts) ≡ true → ¬ (term_instance g v (headed f ts) ≡ v x)
inside_differs g v x f ts h e =
    let i : size (v x) ≤ all_sizes (term_instances g v ts) = some_held_size g v x ts (second_true (is_construction (meaning_of g f)) (some_hold_name g x ts) h) in
    let j : size (constructed f (term_instances g v ts)) ≡ size (v x) = ap size (sym (made_by g v f ts (first_true (is_construction (meaning_of g f)) (some_hold_name g x ts) h)) ∙ e) in
    omega (arith, i, j)

-- ---- what is never equal

differs_from : (c : Text) (us : Values) (w : Value) → IsUnmade (known w) → ¬ (constructed c us ≡ w)
differs_from c us (constructed d ws) i e = i
differs_from c us (whole n) i e = cc
differs_from c us (truth b) i e = cc
differs_from c us (token s x) i e = cc

pub never_is : (g : KoreSignature) (v : Valuation) (t u : SymbolicTerm) (c : Text) (us : Values) → IsMade t → term_instance g v t ≡ constructed c us → IsUnmade u → is_never g t u ≡ true → ¬ (term_instance g v t ≡ term_instance g v u)
never_is g v (headed f ts) (unknown x) c us a m i h e = inside_differs g v x.name f ts h e
never_is g v (known w) (unknown x) c us a m i h e = absurd (cc)
never_is g v (unknown y) (unknown x) c us a m i h e = a
never_is g v (offset y d) (unknown x) c us a m i h e = a
never_is g v t (known w) c us a m i h e = differs_from c us w i (sym m ∙ e)
never_is g v t (offset y d) c us a m i h e = absurd (cc)
never_is g v t (headed f ts) c us a m i h e = absurd (cc)

pub never_or : (g : KoreSignature) (v : Valuation) (b n : Bool) (kept : Formula Literal) (A : Type 0) → (n ≡ true → ¬ A) → Says g v b kept A → Says g v b (if n then fixed (not b) else kept) A
never_or g v b true kept A h k = never_says (IsLiteralTrue g v) b A (h refl)
never_or g v b false kept A h k = k

-- ---- sums of one variable

same_numbers : (n c d : ℤ) → n +ℤ c ≡ n +ℤ d → c ≡ d
same_numbers n c d e = sym (+ℤ-neg_ℤ_cancel c n) ∙ ap (λ m. m -ℤ n) (+ℤ_comm c n ∙ e ∙ +ℤ_comm n d) ∙ +ℤ-neg_ℤ_cancel d n

sums_differ : (n c d : ℤ) (u w : Value) → u ≡ whole (n +ℤ c) → w ≡ whole (n +ℤ d) → u ≡ w → c ≡ d
sums_differ n c d u w p q e = same_numbers n c d (number_inside (sym p ∙ e ∙ q))
  where
    number_inside : {a b : ℤ} → whole a ≡ whole b → a ≡ b
    number_inside f = cc

pub decided_says : (g : KoreSignature) (v : Valuation) (b c : Bool) (A : Type 0) → (c ≡ true → A) → (c ≡ false → ¬ A) → Says g v b (fixed (beq c b)) A
decided_says g v true true A y n = fixed_says (IsLiteralTrue g v) true A (y refl)
decided_says g v false true A y n = fixed_says (IsLiteralTrue g v) false A (y refl)
decided_says g v true false A y n = never_says (IsLiteralTrue g v) true A (n refl)
decided_says g v false false A y n = never_says (IsLiteralTrue g v) false A (n refl)

-- what two sums of one variable have in common
pub with_sums : (g : KoreSignature) (v : Valuation) (b : Bool) (o : Comparison) (kept : Formula Literal) (A : Type 0) (t u : SymbolicTerm) (p q : Option Sum) → ((s : Sum) → p ≡ Some s → IsSum g v t s) → ((s : Sum) → q ≡ Some s → IsSum g v u s)
    → ((n c d : ℤ) → term_instance g v t ≡ whole (n +ℤ c) → term_instance g v u ≡ whole (n +ℤ d) → Says g v b (fixed (beq (compared o c d) b)) A) → Says g v b kept A → Says g v b (fixed_or (compared_at_once o p q) b kept) A
with_sums g v b o kept A t u (Some m) (Some n) i j d k = by_name (bytes_eq m.variable.name n.variable.name) refl
  where
    first : IsSum g v t m
    first = i m refl

    second : IsSum g v u n
    second = j n refl

    one_number : bytes_eq m.variable.name n.variable.name ≡ true → second.number ≡ first.number
    one_number e = number_inside (sym second.is ∙ ap v (sym ((bytes_eq-Decides m.variable.name n.variable.name).0 e)) ∙ first.is)
      where
        number_inside : {a b : ℤ} → whole a ≡ whole b → a ≡ b
        number_inside f = cc

    by_name : (s : Bool) → bytes_eq m.variable.name n.variable.name ≡ s → Says g v b (fixed_or (if s then Some (compared o m.constant n.constant) else None) b kept) A
    by_name true e = d first.number m.constant n.constant first.value (second.value ∙ ap (λ z. whole (z +ℤ n.constant)) (one_number e))
    by_name false e = k
with_sums g v b o kept A t u (Some m) None i j d k = k
with_sums g v b o kept A t u None q i j d k = k

equal_sums : (g : KoreSignature) (v : Valuation) (b : Bool) (t u : SymbolicTerm) (n c d : ℤ) → term_instance g v t ≡ whole (n +ℤ c) → term_instance g v u ≡ whole (n +ℤ d) → Says g v b (fixed (beq (int_eq c d) b)) (term_instance g v t ≡ term_instance g v u)
equal_sums g v b t u n c d p q = decided_says g v b (int_eq c d) (term_instance g v t ≡ term_instance g v u)
    (λ e. p ∙ ap (λ z. whole (n +ℤ z)) ((Decides-int_eq c d).0 e) ∙ sym q)
    (λ e h. absurd (false_true (sym e ∙ (Decides-int_eq c d).1 (sums_differ n c d (term_instance g v t) (term_instance g v u) p q h))))
  where
    false_true : false ≡ true → ⊥
    false_true h = cc

sums_say : (g : KoreSignature) (v : Valuation) (b : Bool) (kept : Formula Literal) (t u : SymbolicTerm) → GivesSorts g v (term_variables t) → GivesSorts g v (term_variables u) → Says g v b kept (term_instance g v t ≡ term_instance g v u) → Says g v b (fixed_or (compared_at_once equal (sum_of g t) (sum_of g u)) b kept) (term_instance g v t ≡ term_instance g v u)
sums_say g v b kept t u i j k = with_sums g v b equal kept (term_instance g v t ≡ term_instance g v u) t u (sum_of g t) (sum_of g u) (λ s. sum_is g v t s i) (λ s. sum_is g v u s j) (equal_sums g v b t u) k

pub unconstructed_say : (g : KoreSignature) (v : Valuation) (b : Bool) (kept : Formula Literal) (t u : SymbolicTerm) → GivesSorts g v (term_variables t) → GivesSorts g v (term_variables u) → terms_same t u ≡ false → Says g v b kept (term_instance g v t ≡ term_instance g v u) → Says g v b (unconstructed g b kept t u) (term_instance g v t ≡ term_instance g v u)
unconstructed_say g v b kept (known u) (known w) i j n k = never_says (IsLiteralTrue g v) b (u ≡ w) (λ e. absurd (false_true (sym n ∙ (same_values_decide u w).1 e)))
  where
    false_true : false ≡ true → ⊥
    false_true h = cc
unconstructed_say g v b kept t u i j n k = sums_say g v b kept t u i j k
