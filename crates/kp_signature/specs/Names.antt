-- For each name its first place in a list of names.
use Rattle.std.specs.Prelude.{◌≡◌, ℕ, suc, List, [], ◌∷◌, String, Option, Some, None, if◌then◌else◌}
use Rattle.std.specs.Option.{option_map}
use Rattle.std.specs.Str.{bytes_eq}
use Rattle.std.specs.declared.alloc.Global.{Global}
use Rattle.indexmap.specs.IndexMap.{IndexMap, get_by_text}
use Rattle.kp_kore.specs.Syntax.{Text}

-- the first place of a name in a list of names
abbrev pub first_place : Text → List Text → Option ℕ
first_place n [] = None
first_place n (m ∷ ms) = if bytes_eq m n then Some 0 else option_map suc (first_place n ms)

-- the map has for each name its first place
abbrev pub Indexes : {S : Type 0} → List Text → IndexMap (String Global) ℕ S → Type 0
Indexes names places = (n : Text) → get_by_text places n ≡ first_place n names
