-- Bounds on differences of whole numbers: what they say, when they are closed, and how large they are.
-- Source: difference constraints and shortest paths (Floyd, Warshall; Cormen and others, Introduction to Algorithms).
use Rattle.std.specs.Prelude.{◌≡◌, ◌<◌, ◌≤◌, ◌+◌, ◌^◌, ℕ, ℤ, pos, ◌+ℤ◌, ◌-ℤ◌, ◌≤ℤ◌, unsigned_abs, int_le, nat_eq, Option, Some, None, if◌then◌else◌}

-- a bound for each two places: at (x, y) the least known c with x - y <= c, if any
abbrev pub Bounds : Type 0
Bounds = ℕ → ℕ → Option ℤ

-- the number keeps the bound
abbrev pub IsWithin : Option ℤ → ℤ → Type 0
IsWithin (Some c) n = n ≤ℤ c
IsWithin None n = Unit {0}

-- the values meet all bounds between the places up to the last one
pub record Meets (last : ℕ) (bounds : Bounds) (values : ℕ → ℤ) : Type 0 where
  pub zero_is : values 0 ≡ pos 0
  pub each : (x y : ℕ) → x ≤ last → y ≤ last → IsWithin (bounds x y) (values x -ℤ values y)

-- nothing but that a place doesn't differ from itself
abbrev pub no_bounds : Bounds
no_bounds x y = if nat_eq x y then Some (pos 0) else None

-- of two bounds on one difference the lesser
abbrev pub narrower : Option ℤ → Option ℤ → Option ℤ
narrower (Some c) (Some d) = if int_le c d then Some c else Some d
narrower (Some c) None = Some c
narrower None o = o

-- the bound over a place, by those to it and from it
abbrev pub summed : Option ℤ → Option ℤ → Option ℤ
summed (Some c) (Some d) = Some (c +ℤ d)
summed (Some c) None = None
summed None o = None

-- the first bound is at least as narrow as the second
abbrev pub IsAtMost : Option ℤ → Option ℤ → Type 0
IsAtMost o None = Unit {0}
IsAtMost None (Some d) = ⊥
IsAtMost (Some c) (Some d) = c ≤ℤ d

-- no bound is gained by going over a third place
abbrev pub IsClosed : ℕ → Bounds → Type 0
IsClosed last bounds = (m x y : ℕ) → m ≤ last → x ≤ last → y ≤ last → IsAtMost (bounds x y) (summed (bounds x m) (bounds m y))

-- the bound, without its sign, is below n
abbrev pub IsBelow : ℕ → Option ℤ → Type 0
IsBelow n (Some c) = unsigned_abs c < n
IsBelow n None = Unit {0}

-- the bound, without its sign, is a number of so many bits
abbrev pub HasBits : ℕ → Option ℤ → Type 0
HasBits bits o = IsBelow (2 ^ bits) o

-- all bounds are
abbrev pub HaveBits : ℕ → ℕ → Bounds → Type 0
HaveBits bits last bounds = (x y : ℕ) → x ≤ last → y ≤ last → HasBits bits (bounds x y)

-- the weight, that is the variables and the bits of the largest constant, is at most 126
pub record IsWithinWeight (size : ℕ) (bounds : Bounds) : Type 0 where
  pub bits : ℕ
  pub weight : size + bits ≤ 126
  pub each : HaveBits bits size bounds
