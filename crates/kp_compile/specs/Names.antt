-- The names in a set of names.
use Rattle.std.specs.Prelude.{List, String, map, string_bytes}
use Rattle.std.specs.declared.alloc.Global.{Global}
use Rattle.indexmap.specs.IndexSet.{IndexSet}
use Rattle.kp_kore.specs.Syntax.{Text}

-- in the order in which they came
abbrev pub names_seen : {S : Type 0} → IndexSet (String Global) S → List Text
names_seen names = map string_bytes names.keys
