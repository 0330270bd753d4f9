-- How the code knows sorts by numbers, and finds a sort's number without memory: among the numbers of its outermost name.
use Rattle.std.specs.Prelude.{◌≡◌, ℕ, ◌<◌, List, [], ◌∷◌, ◌++◌, map, length, Option, Some, None}
use Rattle.std.specs.List.{Contains}
use Rattle.indexmap.specs.IndexMap.{get_by_text}
use Rattle.kp_kore.specs.Syntax.{Text, KoreSort, sort_of, sort_variable}
use Rattle.kp_kore.specs.View.{sort_view}
use Rattle.kp_signature.specs.Edges.{Leads, edges_of, IsNumber}
use Rattle.kp_signature.specs.declared.numbering.Numbering.{Numbering}

-- the name of a sort or of a sort variable
abbrev pub outer_name : KoreSort → Text
outer_name (sort_of n ss) = n
outer_name (sort_variable n) = n

-- the sorts that have numbers, in their order
abbrev pub sorts_in : Numbering → List KoreSort
sorts_in x = map sort_view x.sorts.items

-- the number stands among those of the name
pub record IsListed (x : Numbering) (name : Text) (i : ℕ) : Type 0 where
  pub group : ℕ
  pub named : get_by_text x.names name ≡ Some group
  pub among : Leads (edges_of x.groups.items) group i

-- each number stands among those of its sort's name, and no sort has two
pub record IsNumbering (x : Numbering) : Type 0 where
  pub grouped : (name : Text) (k : ℕ) → get_by_text x.names name ≡ Some k → k < length x.groups.items
  pub listed : (i : ℕ) (a : KoreSort) → IsNumber (sorts_in x) i a → IsListed x (outer_name a) i
  pub once : (i j : ℕ) (a : KoreSort) → IsNumber (sorts_in x) i a → IsNumber (sorts_in x) j a → i ≡ j

-- a number is the sort's, none tells that the sort has none
abbrev pub TellsNumber : List KoreSort → KoreSort → Option ℕ → Type 0
TellsNumber sorts a (Some i) = IsNumber sorts i a
TellsNumber sorts a None = ¬ Contains sorts a

-- one more sort has a number than before, this one
pub record HasNewNumber (before : List KoreSort) (x : Numbering) (a : KoreSort) (i : ℕ) : Type 0 where
  pub is : sorts_in x ≡ before ++ a ∷ []
  pub number : IsNumber (sorts_in x) i a
  pub kept : IsNumbering x

-- more sorts may have numbers than before, and this one has this number
pub record HasNumber (before : List KoreSort) (x : Numbering) (a : KoreSort) (i : ℕ) : Type 0 where
  pub more : List KoreSort
  pub is : sorts_in x ≡ before ++ more
  pub number : IsNumber (sorts_in x) i a
  pub kept : IsNumbering x

-- the name has this group; the groups of other names, and what stands in them, are as before
pub record HasGroup (before after : Numbering) (name : Text) (group : ℕ) : Type 0 where
  pub named : get_by_text after.names name ≡ Some group
  pub names_kept : (n : Text) (k : ℕ) → get_by_text before.names n ≡ Some k → get_by_text after.names n ≡ Some k
  pub grouped : (n : Text) (k : ℕ) → get_by_text after.names n ≡ Some k → k < length after.groups.items
  pub edges_kept : (k i : ℕ) → Leads (edges_of before.groups.items) k i → Leads (edges_of after.groups.items) k i
  pub same_sorts : after.sorts ≡ before.sorts
