-- Bounds as the rows of a square, and what elimination over a place makes of them.
-- Source: Floyd, Algorithm 97: Shortest Path.
use Rattle.std.specs.Prelude.{◌≡◌, ◌≢◌, ◌<◌, ◌≤◌, ℕ, suc, ℤ, pos, ◌≤ℤ◌, ◌+ℤ◌, List, [], length, get_or, map, Option, Some, None, Vec, FitsSigned, ⊤, ◌⊎◌}
use Rattle.std.specs.Int.{w128}
use Rattle.std.specs.declared.alloc.Global.{Global}
use Rattle.kp_diff.specs.Bounds.{Bounds, IsWithin, IsAtMost, narrower, summed}

-- a row for each place x, with its bounds of x - y for each y
abbrev pub Rows : Type 0
Rows = List (List (Option ℤ))

-- the rows of the code's vectors
abbrev pub rows_of : List (Vec (Option ℤ) Global) → Rows
rows_of rows = map (λ v. v.items) rows

-- the bound at (x, y), none outside the rows
abbrev pub bound_in : Rows → Bounds
bound_in rows x y = get_or (get_or rows x []) y None

-- the value at a place
abbrev pub value_in : List ℤ → ℕ → ℤ
value_in values x = get_or values x (pos 0)

-- what a matrix holds: its variables are the places 1 to size, place 0 is the number zero
pub record Differences : Type 0 where
  pub size : ℕ
  pub rows : Rows
  pub values : List ℤ

-- its bounds, as a function of two places
abbrev pub bounds_of : Differences → Bounds
bounds_of m = bound_in m.rows

-- its values, as a function of a place
abbrev pub values_of : Differences → ℕ → ℤ
values_of m = value_in m.values

-- as many rows as each has bounds
pub record IsSquare (n : ℕ) (rows : Rows) : Type 0 where
  pub rows_long : length rows ≡ n
  pub each_long : (x : ℕ) → x < n → length (get_or rows x []) ≡ n

-- the fields of a matrix: a row and a value for each variable and for zero
pub record IsMatrix (size : ℕ) (rows : Rows) (values : List ℤ) : Type 0 where
  pub square : IsSquare (suc size) rows
  pub values_long : length values ≡ suc size

-- each bound, or the one over the place, whichever is narrower
abbrev pub eliminated : Bounds → ℕ → Bounds
eliminated bounds k = λ x y. narrower (bounds x y) (summed (bounds x k) (bounds k y))

-- a bound that isn't below zero
abbrev pub IsSound : Option ℤ → Type 0
IsSound o = IsAtMost (Some (pos 0)) o

-- the sum is within 128 bits
abbrev pub FitsSums : Option ℤ → Option ℤ → Type 0
FitsSums (Some b) (Some c) = FitsSigned w128 (b +ℤ c)
FitsSums (Some b) None = ⊤
FitsSums None o = ⊤

-- row x after the round over k up to column y; all else as before
pub record IsRowUpTo (n : ℕ) (before after : Rows) (k x y : ℕ) : Type 0 where
  pub square : IsSquare n after
  pub done : (j : ℕ) → j < y → bound_in after x j ≡ eliminated (bound_in before) k x j
  pub left : (j : ℕ) → y ≤ j → bound_in after x j ≡ bound_in before x j
  pub others : (i j : ℕ) → i ≢ x → bound_in after i j ≡ bound_in before i j

-- the rows before x after the round over k; all else as before
pub record IsRoundUpTo (n : ℕ) (before after : Rows) (k x : ℕ) : Type 0 where
  pub square : IsSquare n after
  pub done : (i j : ℕ) → i < x → i < n → j < n → bound_in after i j ≡ eliminated (bound_in before) k i j
  pub left : (i j : ℕ) → x ≤ i → bound_in after i j ≡ bound_in before i j

-- the least of zero and a row's first bounds
pub record IsLeast (count : ℕ) (row : ℕ → Option ℤ) (n : ℤ) : Type 0 where
  pub most : n ≤ℤ pos 0
  pub within : (y : ℕ) → y < count → IsWithin (row y) n
  pub is : (n ≡ pos 0) ⊎ ((y : ℕ) × (y < count) × (row y ≡ Some n))
