-- What the outside does to what it tells: sources, sinks and shelves, and their counts of faults.
-- These are this crate's own traits; bytes that are told are std's `Option` of a list.
use Rattle.std.specs.Prelude.{◌≡◌, ◌≢◌, ◌⊎◌, ℕ, ◌-◌, ◌^◌, ◌<◌, ◌≤◌, List, Option, Some, None, length, if◌then◌else◌, ⊤, bytes_eq}

-- the count of faults rose, or stands at its type's end
abbrev pub Rose : ℕ → ℕ → Type 0
Rose before after = (before < after) ⊎ (after ≡ 2 ^ 64 - 1)

-- what a call does to the count of faults: it never falls, rises where the call failed, and else stays
pub record CountsFault (before after : ℕ) (failed : Type 0) : Type 0 where
  pub never_falls : before ≤ after
  pub rose : failed → Rose before after
  pub stays : ¬ failed → after ≡ before

-- what a shelf maps: names to bytes
abbrev pub Names : Type 0
Names = List ℕ → Option (List ℕ)

-- the most bytes that a shelf loads
abbrev pub load_limit : ℕ
load_limit = 16777216

-- the name is there, and holds more bytes than the limit
abbrev pub HoldsMore : ℕ → Option (List ℕ) → Type 0
HoldsMore limit None = ⊥
HoldsMore limit (Some bytes) = limit < length bytes

-- after a store the name holds the bytes, and the others stay
abbrev pub Stores : Option Names → Option Names → List ℕ → List ℕ → Type 0
Stores None new name bytes = ⊤
Stores (Some old) None name bytes = ⊥
Stores (Some old) (Some new) name bytes = (x : List ℕ) → new x ≡ (if bytes_eq name x then Some bytes else old x)

-- all names but this one hold what they held
abbrev pub OthersStay : Option Names → Option Names → List ℕ → Type 0
OthersStay None new name = ⊤
OthersStay (Some old) None name = ⊥
OthersStay (Some old) (Some new) name = (x : List ℕ) → x ≢ name → new x ≡ old x
