-- The order in which clauses and literals are written: that of their compact JSON texts.
-- Source: the K framework's Kore JSON, version 1; the order is this project's.
use Rattle.std.specs.Prelude.{◌≡◌, ◌↔◌, false, List, [], ◌∷◌, ⊤, unwrap_or, option_map}
use Rattle.std.specs.List.{AllByRecursion, Contains}
use Rattle.std.specs.List.Sorted.{IsPermutation}
use Rattle.serde_json.specs.Written.{compact_text}
use Rattle.kp_kore.specs.Syntax.{Text, KorePattern}
use Rattle.kp_json.specs.Written.{wrapped_pattern}
use Rattle.kp_symbolic.specs.Folding.{is_text_before}
use Rattle.kp_symbolic.specs.Shown.{AreDifferent}

-- the compact text of a pattern's JSON; empty where Kore JSON has no tag for it
abbrev pub json_text : KorePattern → Text
json_text p = unwrap_or (option_map compact_text (wrapped_pattern p)) []

-- no pattern's text is before that of one that stands before it
abbrev pub AreInOrder : List KorePattern → Type 0
AreInOrder [] = ⊤
AreInOrder (p ∷ ps) = AllByRecursion (λ q. is_text_before (json_text q) (json_text p) ≡ false) ps × AreInOrder ps

-- the second patterns are the first in order
pub record IsOrdered (ps qs : List KorePattern) : Type 0 where
  pub same : IsPermutation ps qs
  pub in_order : AreInOrder qs

-- the second patterns are the first in order, each once
pub record IsOrderedOnce (ps qs : List KorePattern) : Type 0 where
  pub same : (p : KorePattern) → Contains ps p ↔ Contains qs p
  pub once : AreDifferent qs
  pub in_order : AreInOrder qs
