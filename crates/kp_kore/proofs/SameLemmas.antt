-- The tests whether two sorts or two values are the same decide it.
use Rattle.std.proofs.Common.{◌≡◌, refl, Bool, true, false, not, ◌&&◌, ◌↔◌, ap}
use Rattle.std.specs.Bool.{Decides}
use Rattle.std.specs.Cmp.{booleans_Decides}
use Rattle.std.specs.Str.{bytes_eq}
use Rattle.std.proofs.lemmas.Slice.Eq.{bytes_eq-Decides}
use Rattle.std.proofs.lemmas.Bool.Decides.{Decides-int_eq}
use Rattle.kp_kore.specs.Syntax.{KoreSort, sort_of, sort_variable, KoreSorts, no_sorts, next_sort}
use Rattle.kp_kore.specs.Attributes.{sorts_equal, all_sorts_equal}
use Rattle.kp_kore.specs.Value.{Value, whole, truth, token, constructed, Values, no_values, next_value, values_same, all_same}

-- two tests decide a fact that is both of theirs
pub both_decide : {P Q R : Type 0} (a b : Bool) → Decides a P → Decides b Q → (P → Q → R) → (R → P) → (R → Q) → Decides (a && b) R
both_decide true true d e join first second = (λ _. join (d.0 refl) (e.0 refl), λ _. refl)
both_decide true false d e join first second = (λ h. absurd (cc), λ r. e.1 (second r))
both_decide false b d e join first second = (λ h. absurd (cc), λ r. d.1 (first r))

-- a test that is false decides what can't hold
pub never_decides : {R : Type 0} → (R → ⊥) → Decides false R
never_decides n = (λ h. absurd (cc), λ r. absurd (n r))

mutual
  pub sorts_equal-Decides : (s t : KoreSort) → Decides (sorts_equal s t) (s ≡ t)
  sorts_equal-Decides (sort_of n ss) (sort_of m ts) = both_decide (bytes_eq n m) (all_sorts_equal ss ts) (bytes_eq-Decides n m) (all_sorts_equal-Decides ss ts) (λ e f. cc) (λ e. cc) (λ e. cc)
  sorts_equal-Decides (sort_variable n) (sort_variable m) = (λ h. ap sort_variable ((bytes_eq-Decides n m).0 h), λ e. (bytes_eq-Decides n m).1 (cc))
  sorts_equal-Decides (sort_of n ss) (sort_variable m) = never_decides (λ e. cc)
  sorts_equal-Decides (sort_variable n) (sort_of m ts) = never_decides (λ e. cc)

  pub all_sorts_equal-Decides : (ss ts : KoreSorts) → Decides (all_sorts_equal ss ts) (ss ≡ ts)
  all_sorts_equal-Decides no_sorts no_sorts = (λ _. refl, λ _. refl)
  all_sorts_equal-Decides (next_sort s ss) (next_sort t ts) = both_decide (sorts_equal s t) (all_sorts_equal ss ts) (sorts_equal-Decides s t) (all_sorts_equal-Decides ss ts) (λ e f. cc) (λ e. cc) (λ e. cc)
  all_sorts_equal-Decides no_sorts (next_sort t ts) = never_decides (λ e. cc)
  all_sorts_equal-Decides (next_sort s ss) no_sorts = never_decides (λ e. cc)

mutual
  pub values_same-Decides : (u v : Value) → Decides (values_same u v) (u ≡ v)
  values_same-Decides (whole m) (whole n) = (λ h. ap whole ((Decides-int_eq m n).0 h), λ e. (Decides-int_eq m n).1 (cc))
  values_same-Decides (truth a) (truth b) = (λ h. ap truth ((booleans_Decides a b).0 h), λ e. (booleans_Decides a b).1 (cc))
  values_same-Decides (token s x) (token t y) = both_decide (sorts_equal s t) (bytes_eq x y) (sorts_equal-Decides s t) (bytes_eq-Decides x y) (λ e f. cc) (λ e. cc) (λ e. cc)
  values_same-Decides (constructed c us) (constructed d vs) = both_decide (bytes_eq c d) (all_same us vs) (bytes_eq-Decides c d) (all_same-Decides us vs) (λ e f. cc) (λ e. cc) (λ e. cc)
  values_same-Decides (whole m) (truth b) = never_decides (λ e. cc)
  values_same-Decides (whole m) (token t y) = never_decides (λ e. cc)
  values_same-Decides (whole m) (constructed d vs) = never_decides (λ e. cc)
  values_same-Decides (truth a) (whole n) = never_decides (λ e. cc)
  values_same-Decides (truth a) (token t y) = never_decides (λ e. cc)
  values_same-Decides (truth a) (constructed d vs) = never_decides (λ e. cc)
  values_same-Decides (token s x) (whole n) = never_decides (λ e. cc)
  values_same-Decides (token s x) (truth b) = never_decides (λ e. cc)
  values_same-Decides (token s x) (constructed d vs) = never_decides (λ e. cc)
  values_same-Decides (constructed c us) (whole n) = never_decides (λ e. cc)
  values_same-Decides (constructed c us) (truth b) = never_decides (λ e. cc)
  values_same-Decides (constructed c us) (token t y) = never_decides (λ e. cc)

  pub all_same-Decides : (us vs : Values) → Decides (all_same us vs) (us ≡ vs)
  all_same-Decides no_values no_values = (λ _. refl, λ _. refl)
  all_same-Decides (next_value u us) (next_value v vs) = both_decide (values_same u v) (all_same us vs) (values_same-Decides u v) (all_same-Decides us vs) (λ e f. cc) (λ e. cc) (λ e. cc)
  all_same-Decides no_values (next_value v vs) = never_decides (λ e. cc)
  all_same-Decides (next_value u us) no_values = never_decides (λ e. cc)

pub same_values_decide : (u v : Value) → Decides (values_same u v) (u ≡ v)
same_values_decide = values_same-Decides

-- what the calls of KEQUAL tell
truth_inside : (a b : Bool) → truth a ≡ truth b → a ≡ b
truth_inside a b e = cc

not_false_is_true : (a : Bool) → not a ≡ false → a ≡ true
not_false_is_true true e = refl
not_false_is_true false e = absurd (cc)

pub equal_call : (u v : Value) → (truth (values_same u v) ≡ truth true) ↔ (u ≡ v)
equal_call u v = (
  (λ h. (values_same-Decides u v).0 (truth_inside (values_same u v) true h)),
  (λ e. ap truth ((values_same-Decides u v).1 e)),
)

pub different_call : (u v : Value) → (truth (not (values_same u v)) ≡ truth false) ↔ (u ≡ v)
different_call u v = (
  (λ h. (values_same-Decides u v).0 (not_false_is_true (values_same u v) (truth_inside (not (values_same u v)) false h))),
  (λ e. ap (λ b. truth (not b)) ((values_same-Decides u v).1 e)),
)

pub same_sorts_decide : (s t : KoreSort) → Decides (sorts_equal s t) (s ≡ t)
same_sorts_decide = sorts_equal-Decides
