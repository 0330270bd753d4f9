-- Names that were met.
use Rattle.std.specs.Prelude.{◌≡◌, List, String}
use Rattle.std.specs.Option.{is_some}
use Rattle.std.specs.List.{list_any}
use Rattle.std.specs.Str.{bytes_eq}
use Rattle.std.specs.declared.alloc.Global.{Global}
use Rattle.indexmap.specs.IndexMap.{IndexMap, get_by_text}
use Rattle.kp_kore.specs.Syntax.{Text}

-- the map has these names
abbrev pub Lists : {V S : Type 0} → List Text → IndexMap (String Global) V S → Type 0
Lists names met = (x : Text) → is_some (get_by_text met x) ≡ list_any (bytes_eq x) names
