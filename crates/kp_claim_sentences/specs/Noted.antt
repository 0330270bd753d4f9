-- Names that the code has noted.
use Rattle.std.specs.Prelude.{Bool, List, map, string_bytes, String}
use Rattle.std.specs.Option.{is_some}
use Rattle.std.specs.Borrow.{Bor}
use Rattle.std.specs.declared.alloc.Global.{Global}
use Rattle.indexmap.specs.IndexMap.{IndexMap, get_by_text}
use Rattle.kp_kore.specs.Syntax.{Text}

-- lent names
abbrev pub names_seen : List (Bor (String Global)) → List Text
names_seen = map (λ n. string_bytes n.now)

-- the map has this name
abbrev pub has_name : {V S : Type 0} → IndexMap (String Global) V S → Text → Bool
has_name names n = is_some (get_by_text names n)
