-- Rows of numbers, and what they give from numbers that are there at the start.
use Rattle.std.specs.Prelude.{◌≡◌, ℕ, List, ◌++◌, Vec, Some, slice_get, ◌<◌, length}
use Rattle.std.specs.List.{Contains}
use Rattle.std.specs.declared.alloc.Global.{Global}
use Rattle.kp_signature.specs.Edges.{Leads, edges_of}
use Rattle.kp_heads.specs.declared.row.Row.{Row}

-- all that the row needs is there
abbrev pub IsMet : Row → List ℕ → Type 0
IsMet r found = (n : ℕ) → Contains r.needs.items n → Contains found n

-- a number is there at the start, or is given by a row all of whose needs are given
pub data IsGiven (rows : List Row) (starts : List ℕ) : ℕ → Type 0 where
  starting : (i : ℕ) → Contains starts i → IsGiven rows starts i
  by_row : (r : Row) → Contains rows r → ((n : ℕ) → Contains r.needs.items n → IsGiven rows starts n) → IsGiven rows starts r.gives

-- under each number stand the places of the rows that need it
abbrev pub AreUsers : List Row → List (Vec ℕ Global) → Type 0
AreUsers rows users = (k : ℕ) (r : Row) → slice_get rows k ≡ Some r → (n : ℕ) → Contains r.needs.items n → Leads (edges_of users) n k

-- the row was tried: what is new is what it gives, where it is met
pub record Tried (r : Row) (before after : List ℕ) : Type 0 where
  pub more : List ℕ
  pub is : after ≡ before ++ more
  pub sound : (j : ℕ) → Contains more j → IsMet r before × (j ≡ r.gives)
  pub met : IsMet r before → Contains after r.gives

-- what is new is given by rows
pub record Grown (rows : List Row) (before after : List ℕ) : Type 0 where
  pub more : List ℕ
  pub is : after ≡ before ++ more
  pub sound : (starts : List ℕ) → ((j : ℕ) → Contains before j → IsGiven rows starts j) → (j : ℕ) → Contains after j → IsGiven rows starts j

-- each of these rows was tried
pub record Began (rows some : List Row) (before after : List ℕ) : Type 0 where
  pub grown : Grown rows before after
  pub met : (r : Row) → Contains some r → IsMet r before → Contains after r.gives

-- the rows at these places were tried
pub record Woken (rows : List Row) (places : List ℕ) (before after : List ℕ) : Type 0 where
  pub grown : Grown rows before after
  pub met : (k : ℕ) (r : Row) → Contains places k → slice_get rows k ≡ Some r → IsMet r before → Contains after r.gives

-- each number that a row needs is below the count
abbrev pub NeedBelow : List Row → ℕ → Type 0
NeedBelow rows count = (r : Row) → Contains rows r → (n : ℕ) → Contains r.needs.items n → n < count

-- the place stands under each of the numbers, and what stood somewhere still does
pub record HasUses (before after : List (Vec ℕ Global)) (numbers : List ℕ) (place : ℕ) : Type 0 where
  pub same_length : length after ≡ length before
  pub kept : (i j : ℕ) → Leads (edges_of before) i j → Leads (edges_of after) i j
  pub added : (n : ℕ) → Contains numbers n → n < length before → Leads (edges_of after) n place
