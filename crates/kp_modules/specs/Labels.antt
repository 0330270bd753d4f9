-- Which labels stand once.
use Rattle.std.specs.Prelude.{◌≡◌, ◌==◌, Bool, List, Some, None, if◌then◌else◌, count_by, String}
use Rattle.std.specs.Str.{bytes_eq}
use Rattle.std.specs.declared.alloc.Global.{Global}
use Rattle.indexmap.specs.IndexMap.{IndexMap, get_by_text}
use Rattle.kp_kore.specs.Syntax.{Text}
use Rattle.kp_imports.specs.Reaching.{has}

abbrev pub stands_once : Text → List Text → Bool
stands_once n names = count_by (bytes_eq n) names == 1

-- the map has each of the names, with whether it stands once
abbrev pub Counts : {S : Type 0} → List Text → IndexMap (String Global) Bool S → Type 0
Counts names counted = (n : Text) → get_by_text counted n ≡ (if has n names then Some (stands_once n names) else None)
