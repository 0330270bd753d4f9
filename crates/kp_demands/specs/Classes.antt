-- Classes of equal unknowns, each named by one of its members, its root.
-- Source: union and find (Galler, Fischer), with a table of roots.
use Rattle.std.specs.Prelude.{◌≡◌, ◌<◌, ℕ, List, length, get_or, nat_eq, if◌then◌else◌}

-- no two of the first unknowns are equal
abbrev pub AreFixed : ℕ → (ℕ → ℕ) → Type 0
AreFixed fixed classes = (x y : ℕ) → x < fixed → y < fixed → classes x ≡ classes y → x ≡ y

-- the root of an unknown
abbrev pub root_in : List ℕ → ℕ → ℕ
root_in roots x = get_or roots x x

-- unknowns are equal to their roots
abbrev pub HaveRoots : List ℕ → (ℕ → ℕ) → Type 0
HaveRoots roots classes = (x : ℕ) → x < length roots → classes (root_in roots x) ≡ classes x

-- roots are in the table and roots of themselves, and the first unknowns are roots
pub record AreRoots (fixed : ℕ) (roots : List ℕ) : Type 0 where
  pub placed : (x : ℕ) → x < length roots → root_in roots x < length roots
  pub own : (x : ℕ) → x < length roots → root_in roots (root_in roots x) ≡ root_in roots x
  pub first : (x : ℕ) → x < fixed → root_in roots x ≡ x

abbrev pub renamed : ℕ → ℕ → ℕ → ℕ
renamed from to r = if nat_eq r from then to else r
