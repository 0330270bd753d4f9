-- How the code keeps the variables in scope: by name, with the sort that counts first.
use Rattle.std.specs.Prelude.{◌≡◌, ℕ, List, String}
use Rattle.std.specs.Option.{option_map}
use Rattle.std.specs.Borrow.{Bor}
use Rattle.std.specs.Prelude.{Option, Some}
use Rattle.std.specs.declared.alloc.Global.{Global}
use Rattle.indexmap.specs.IndexMap.{IndexMap, get_by_text}
use Rattle.kp_kore.specs.Syntax.{Text, KoreSort}
use Rattle.kp_kore.specs.Parts.{SortedName}
use Rattle.kp_kore.specs.View.{sort_view}
use Rattle.kp_kore.specs.declared.sort.Sort.{Sort}
use Rattle.kp_signature.specs.Places.{Place, sort_in_scope}

-- the map has for each name its sort in scope
pub record Knows {S : Type 0} (scope : List SortedName) (map : IndexMap (String Global) Sort S) : Type 0 where
  pub names : (n : Text) → option_map sort_view (get_by_text map n) ≡ sort_in_scope n scope

-- a name with its sort, as it stands in scope
abbrev pub sorted_name : Text → KoreSort → SortedName
sorted_name x s = record { name = x; sort = s }

-- the sort that the code's place wants, if it wants one
abbrev pub wanted_sort : Option (Bor Sort) → Option KoreSort
wanted_sort wanted = option_map (λ s. sort_view s.now) wanted

-- the place that the code's values stand for
abbrev pub place_of : Option (Bor Sort) → ℕ → List SortedName → Place
place_of wanted depth scope = record { wanted = option_map (λ s. sort_view s.now) wanted; depth = depth; scope = scope }

-- the place of a part that is no argument
abbrev pub part_place : KoreSort → List SortedName → Place
part_place s scope = record { wanted = Some s; depth = 1; scope = scope }
