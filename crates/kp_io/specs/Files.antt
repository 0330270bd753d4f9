-- What files in memory hold.
use Rattle.std.specs.Prelude.{ℕ, option_map, Vec, String}
use Rattle.std.specs.BTreeMap.{BTreeMap, get_by_text}
use Rattle.std.specs.declared.alloc.Global.{Global}
use Rattle.kp_io.specs.Outside.{Names}

-- each name of the map with the bytes of its list
abbrev pub map_names : BTreeMap (String Global) (Vec ℕ Global) → Names
map_names m name = option_map (λ bytes. bytes.items) (get_by_text m name)
