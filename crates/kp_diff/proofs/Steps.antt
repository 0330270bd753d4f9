-- One member more of a list whose members are as a rule says.
use Rattle.std.proofs.Common.{◌≡◌, ◌≢◌, sym, ◌∙◌, subst, arith, ℤ, Option, None, Vec, Global, List, [], ◌∷◌, ◌++◌, get_or, set, length, ◌<◌, ◌≤◌, ◌+◌, ℕ, suc, ◌⊎◌, inl, inr}
use Rattle.std.proofs.lemmas.List.{get_or-set_same, get_or-set_other, get_or_append_left, length-set, map-set}
use Rattle.std.proofs.Math.Seq.{get_or-append_seam}
use Rattle.kp_diff.specs.Bounds.{no_bounds}
use Rattle.kp_diff.specs.Rows.{rows_of, bound_in, IsSquare}
use Rattle.kp_diff.proofs.RowSteps.{same_or_not, before_or_not, square_set}

earlier : (i n : ℕ) → i < n + 1 → i ≢ n → i < n
earlier i n h ne = by (before_or_not i n)
  where
    by : (i < n) ⊎ (n ≤ i) → i < n
    by (inl a) = a
    by (inr a) = absurd (ne (omega arith))

pub each_pushed : {X : Type 0} (P : ℕ → X → Type 0) (xs : List X) (d : X) (n : ℕ) (v : X) → length xs ≡ n → P n v →
    ((i : ℕ) → i < n → P i (get_or xs i d)) → (i : ℕ) → i < n + 1 → P i (get_or (xs ++ v ∷ []) i d)
each_pushed P xs d n v e p h i below = by (same_or_not i n)
  where
    seam : get_or (xs ++ v ∷ []) n d ≡ v
    seam = subst (λ k. get_or (xs ++ v ∷ []) k d ≡ v) e (get_or-append_seam xs v [] d)

    by : (i ≡ n) ⊎ (i ≢ n) → P i (get_or (xs ++ v ∷ []) i d)
    by (inl q) = subst (λ k. P k (get_or (xs ++ v ∷ []) k d)) (sym q) (subst (λ w. P n w) (sym seam) p)
    by (inr ne) = subst (λ w. P i w) (sym (get_or_append_left xs (v ∷ []) d i (subst (λ k. i < k) (sym e) (earlier i n below ne)))) (h i (earlier i n below ne))

pub each_set : {X : Type 0} (P : ℕ → X → Type 0) (xs : List X) (d : X) (n : ℕ) (v : X) → n < length xs → P n v →
    ((i : ℕ) → i < n → P i (get_or xs i d)) → (i : ℕ) → i < n + 1 → P i (get_or (set xs n v) i d)
each_set P xs d n v long p h i below = by (same_or_not i n)
  where
    by : (i ≡ n) ⊎ (i ≢ n) → P i (get_or (set xs n v) i d)
    by (inl q) = subst (λ k. P k (get_or (set xs n v) k d)) (sym q) (subst (λ w. P n w) (sym (get_or-set_same xs n v d long)) p)
    by (inr ne) = subst (λ w. P i w) (sym (get_or-set_other xs n i v d ne)) (h i (earlier i n below ne))

-- one row more without bounds
pub free_step : (size : ℕ) (rows : List (Vec (Option ℤ) Global)) (x : ℕ) (v : Vec (Option ℤ) Global) → length rows ≡ suc size → IsSquare (suc size) (rows_of rows) → x < suc size →
    length v.items ≡ suc size → ((y : ℕ) → y ≤ size → get_or v.items y None ≡ no_bounds x y) → ((i y : ℕ) → i < x → y ≤ size → bound_in (rows_of rows) i y ≡ no_bounds i y) →
    (length (set rows x v) ≡ suc size) × IsSquare (suc size) (rows_of (set rows x v)) × ((i y : ℕ) → i < x + 1 → y ≤ size → bound_in (rows_of (set rows x v)) i y ≡ no_bounds i y)
free_step size rows x v e q hx long free before =
    let mapped : rows_of (set rows x v) ≡ set (rows_of rows) x v.items = map-set (λ w. w.items) rows x v in (
      length-set rows x v ∙ e,
      subst (λ r. IsSquare (suc size) r) (sym mapped) (square_set (suc size) (rows_of rows) x v.items hx long q),
      λ i y h j. subst (λ r. bound_in r i y ≡ no_bounds i y) (sym mapped)
          (each_set (λ k row. (y : ℕ) → y ≤ size → get_or row y None ≡ no_bounds k y) (rows_of rows) [] x v.items (subst (λ k. x < k) (sym q.rows_long) hx) free (λ k h' z j'. before k z h' j') i h y j),
    )
