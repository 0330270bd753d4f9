-- Sorts of values: upwards along subsorts, and at no sort arguments.
use Rattle.std.proofs.Common.{◌≡◌, refl, sym, ◌∙◌, ap, ap₂, Bool, true, false, cond, [], Option, Some, None}
use Rattle.std.specs.Prelude.{codes}
use Rattle.std.specs.List.{find}
use Rattle.std.specs.Option.{option_map}
use Rattle.kp_kore.specs.Syntax.{KoreSort, sort_of, sort_variable, KoreSorts, no_sorts, next_sort, SortDeclaration}
use Rattle.kp_kore.specs.Signature.{KoreSignature, Head, integers, booleans, tokens, constructor_of, IsHeadOf, IsBelow, is_the, has_hook, declared_sort, other_than, integer_sort, boolean_sort, is_integer_sort}
use Rattle.kp_kore.specs.Attributes.{sorts_equal}
use Rattle.kp_kore.specs.Sorting.{at_arguments, all_at_arguments}
use Rattle.kp_kore.specs.Value.{Value, whole, truth, token, constructed, HasSort}
use Rattle.kp_kore.proofs.SameLemmas.{sorts_equal-Decides}
use Rattle.kp_signature.proofs.Below.{onwards}

head_above : (g : KoreSignature) (a b : KoreSort) (h : Head) → IsHeadOf g a h → IsBelow g.subsorts a b → IsHeadOf g b h
head_above g a b h i below = (i.0, i.1, onwards g.subsorts i.0 a b i.2 below)

pub has_sort_above : (g : KoreSignature) (a b : KoreSort) (u : Value) → IsBelow g.subsorts a b → HasSort g a u → HasSort g b u
has_sort_above g a b (whole n) below h = head_above g a b integers h below
has_sort_above g a b (truth n) below h = head_above g a b booleans h below
has_sort_above g a b (token t x) below h = head_above g a b (tokens t) h below
has_sort_above g a b (constructed c us) below h = (head_above g a b (constructor_of c) h.0 below, h.1, h.2, h.3)

mutual
  pub at_no_arguments : (ss : KoreSorts) (s : KoreSort) → at_arguments [] ss s ≡ s
  at_no_arguments ss (sort_of n ts) = ap (sort_of n) (all_at_no_arguments ss ts)
  at_no_arguments ss (sort_variable n) = refl

  pub all_at_no_arguments : (ss ts : KoreSorts) → all_at_arguments [] ss ts ≡ ts
  all_at_no_arguments ss no_sorts = refl
  all_at_no_arguments ss (next_sort t ts) = ap₂ next_sort (at_no_arguments ss t) (all_at_no_arguments ss ts)

-- a sort that passes the test is the one
pub is_that_sort : (o : Option KoreSort) (s : KoreSort) → is_the o s ≡ true → o ≡ Some s
is_that_sort (Some t) s e = ap Some ((sorts_equal-Decides t s).0 e)
is_that_sort None s e = absurd (cc)

pub same_inside : {A : Type 0} (a b : A) → Some a ≡ Some b → a ≡ b
same_inside {A} a b e = ap inside e
  where
    inside : Option A → A
    inside (Some x) = x
    inside None = a

-- the truth sort is another than that of whole numbers
pub boolean_is_no_integer : (g : KoreSignature) (s : KoreSort) → boolean_sort g ≡ Some s → is_integer_sort g s ≡ false
boolean_is_no_integer g s e = by (integer_sort g) (option_map declared_sort (find (has_hook (codes "BOOL.Bool")) g.sorts)) e
  where
    by : (o p : Option KoreSort) → other_than o p ≡ Some s → is_the o s ≡ false
    by None p e = refl
    by (Some t) None e = absurd (cc)
    by (Some t) (Some u) e = at (sorts_equal t u) refl e
      where
        at : (b : Bool) → sorts_equal t u ≡ b → cond b None (Some u) ≡ Some s → sorts_equal t s ≡ false
        at true q f = absurd (cc)
        at false q f = ap (sorts_equal t) (sym (same_inside u s f)) ∙ q

-- and no sort variable
pub boolean_is_plain : (g : KoreSignature) (s : KoreSort) → boolean_sort g ≡ Some s → sorts_equal s (sort_variable []) ≡ false
boolean_is_plain g s e = by (integer_sort g) (find (has_hook (codes "BOOL.Bool")) g.sorts) e
  where
    of_declared : (d : SortDeclaration) → declared_sort d ≡ s → sorts_equal s (sort_variable []) ≡ false
    of_declared d f = ap (λ t. sorts_equal t (sort_variable [])) (sym f)

    by : (o : Option KoreSort) (p : Option SortDeclaration) → other_than o (option_map declared_sort p) ≡ Some s → sorts_equal s (sort_variable []) ≡ false
    by None None e = absurd (cc)
    by None (Some d) e = of_declared d (same_inside (declared_sort d) s e)
    by (Some t) None e = absurd (cc)
    by (Some t) (Some d) e = at (sorts_equal t (declared_sort d)) e
      where
        at : (b : Bool) → cond b None (Some (declared_sort d)) ≡ Some s → sorts_equal s (sort_variable []) ≡ false
        at true f = absurd (cc)
        at false f = of_declared d (same_inside (declared_sort d) s f)
