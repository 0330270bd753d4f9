-- Rows as lists of lists.
use Rattle.std.proofs.Common.{◌≡◌, sym, ◌∙◌, ap, subst, arith, List, [], get_or, length, ◌<◌, ◌≤◌, ◌+◌, ℕ, ℤ, Option, None, Vec, Global, ◌⊎◌, inl, inr}
use Rattle.std.proofs.lemmas.List.{get_or-map, get_or-set_same, set-get_or, length-map}
use Rattle.kp_diff.specs.Rows.{Rows, rows_of, bound_in, IsSquare, IsLeast}
use Rattle.kp_diff.specs.Bounds.{IsBelow}
use Rattle.kp_diff.proofs.RowSteps.{before_or_not}

-- a row is the items of the vector
pub row_at : (rows : List (Vec (Option ℤ) Global)) (x : ℕ) (d : Vec (Option ℤ) Global) → x < length rows → get_or (rows_of rows) x [] ≡ (get_or rows x d).items
row_at rows x d h = get_or-map (λ v. v.items) rows x d [] h

-- within a list what stands in for a missing member doesn't matter
pub any_default : (xs : List (Option ℤ)) (y : ℕ) (d e : Option ℤ) → y < length xs → get_or xs y d ≡ get_or xs y e
any_default xs y d e h = sym (get_or-set_same xs y (get_or xs y d) e h) ∙ ap (λ l. get_or l y e) (set-get_or xs y d)

pub cell_is : (rows : List (Vec (Option ℤ) Global)) (x y : ℕ) (d : Vec (Option ℤ) Global) (e : Option ℤ) → x < length rows → y < length (get_or rows x d).items → get_or (get_or rows x d).items y e ≡ bound_in (rows_of rows) x y
cell_is rows x y d e h k = any_default (get_or rows x d).items y e None k ∙ ap (λ l. get_or l y None) (sym (row_at rows x d h))

-- a row of a square has as many bounds as there are rows
pub within : (n : ℕ) (rows : List (Vec (Option ℤ) Global)) (x : ℕ) → IsSquare n (rows_of rows) → x < n → x < length rows
within n rows x q h = subst (λ k. x < k) (sym q.rows_long ∙ length-map rows (λ v. v.items)) h

pub row_long : (n : ℕ) (rows : List (Vec (Option ℤ) Global)) (x : ℕ) (d : Vec (Option ℤ) Global) → IsSquare n (rows_of rows) → x < n → length (get_or rows x d).items ≡ n
row_long n rows x d q h = ap length (sym (row_at rows x d (within n rows x q h))) ∙ q.each_long x h

pub row_len : (n : ℕ) (rows : List (Vec (Option ℤ) Global)) (x : ℕ) (d : Vec (Option ℤ) Global) → IsSquare n (rows_of rows) → x < n → (get_or rows x d).len ≡ n
row_len n rows x d q h = (get_or rows x d).ok.0 ∙ row_long n rows x d q h

-- a row that was read
pub row_read : (rows : List (Vec (Option ℤ) Global)) (x : ℕ) (v : Vec (Option ℤ) Global) (r : List (Option ℤ)) → x < length rows → v ≡ get_or rows x v → r ≡ v.items → r ≡ get_or (rows_of rows) x []
row_read rows x v r h is e = e ∙ ap (λ w. w.items) is ∙ sym (row_at rows x v h)

-- the least of a row that was read
pub least_of_row : (n : ℕ) (rows : List (Vec (Option ℤ) Global)) (x : ℕ) (v : Vec (Option ℤ) Global) (r : List (Option ℤ)) (a : ℤ) → IsSquare n (rows_of rows) → x < n →
    v ≡ get_or rows x v → r ≡ v.items → IsLeast (length r) (λ y. get_or r y None) a → IsLeast n (bound_in (rows_of rows) x) a
least_of_row n rows x v r a q h is e l =
    subst (λ k. IsLeast k (λ y. get_or (get_or (rows_of rows) x []) y None) a) (q.each_long x h) (subst (λ s. IsLeast (length s) (λ y. get_or s y None) a) (row_read rows x v r (within n rows x q h) is e) l)

-- one row more whose bounds are below a limit
pub below_step : (rows : Rows) (limit i : ℕ) → ((y : ℕ) → y < length (get_or rows i []) → IsBelow limit (bound_in rows i y)) →
    ((x : ℕ) → x < i → (y : ℕ) → y < length (get_or rows x []) → IsBelow limit (bound_in rows x y)) → (x : ℕ) → x < i + 1 → (y : ℕ) → y < length (get_or rows x []) → IsBelow limit (bound_in rows x y)
below_step rows limit i now before x h = by (before_or_not x i)
  where
    is : (a b : ℕ) → a < b + 1 → b ≤ a → a ≡ b
    is a b h k = omega arith

    by : (x < i) ⊎ (i ≤ x) → (y : ℕ) → y < length (get_or rows x []) → IsBelow limit (bound_in rows x y)
    by (inl k) = before x k
    by (inr k) = subst (λ z. (y : ℕ) → y < length (get_or rows z []) → IsBelow limit (bound_in rows z y)) (sym (is x i h k)) now
