-- How the code knows whether a variable alone as a left term splits: by the numbers of sorts.
use Rattle.std.specs.Prelude.{◌↔◌, ℕ, List}
use Rattle.std.specs.List.{Contains}
use Rattle.kp_kore.specs.Syntax.{KoreSort}
use Rattle.kp_kore.specs.Signature.{KoreSignature, Head}
use Rattle.kp_kore.specs.Foreign.{IsCommonHead, Meet}
use Rattle.kp_rules.specs.Index.{IsShared, NumberMeet, Under, Over}
use Rattle.kp_rules.specs.declared.sort_index.SortIndex.{SortIndex}

-- each sort that has heads in common with this one has a meet with it
abbrev pub SortSplits : KoreSignature → KoreSort → Type 0
SortSplits g t = (a : KoreSort) (h : Head) → IsCommonHead g a t h → Meet g a t

-- the same of sorts that have numbers
abbrev pub NumberSplits : SortIndex → ℕ → Type 0
NumberSplits x t = (i o : ℕ) → IsShared x t i o → NumberMeet x t i

-- these are the numbers below one
abbrev pub AreBelow : SortIndex → ℕ → List ℕ → Type 0
AreBelow x t ns = (j : ℕ) → Contains ns j ↔ Under x t j

-- these are the numbers above one
abbrev pub AreAbove : SortIndex → ℕ → List ℕ → Type 0
AreAbove x t ns = (j : ℕ) → Contains ns j ↔ Over x t j
