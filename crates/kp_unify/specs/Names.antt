-- New names.
-- Source: this project: `Fresh` and the least number from 1 that makes a name which isn't in use.
use Rattle.std.specs.Prelude.{◌≡◌, ◌+◌, ◌^◌, ◌≤◌, ◌<◌, ℕ, List, [], ◌∷◌, true, false}
use Rattle.std.specs.List.{list_any}
use Rattle.std.specs.Str.{bytes_eq}
use Rattle.kp_kore.specs.Syntax.{Text, KoreSort}
use Rattle.kp_kore.specs.Parts.{SortedName}
use Rattle.kp_symbolic.specs.Writing.{fresh_name}

-- the name with the least number from this one on that isn't used, and the number behind its own
pub record IsNextName (used : List Text) (next : ℕ) (name : Text) (after : ℕ) : Type 0 where
  pub number : ℕ
  pub is : name ≡ fresh_name number
  pub from : next ≤ number
  pub behind : after ≡ number + 1
  pub few : number < 2 ^ 64
  pub is_new : list_any (bytes_eq name) used ≡ false
  pub least : (j : ℕ) → next ≤ j → j < number → list_any (bytes_eq (fresh_name j)) used ≡ true

-- a variable of each sort, with the names that come next, one after the other, and the number behind the last
abbrev pub AreNextVariables : List Text → ℕ → List KoreSort → List SortedName → ℕ → Type 0
AreNextVariables used next [] [] after = next ≡ after
AreNextVariables used next (s ∷ ss) (x ∷ xs) after = (between : ℕ) × IsNextName used next x.name between × (x.sort ≡ s) × AreNextVariables used between ss xs after
AreNextVariables used next [] (x ∷ xs) after = ⊥
AreNextVariables used next (s ∷ ss) [] after = ⊥
