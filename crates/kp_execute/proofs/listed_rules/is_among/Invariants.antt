use Rattle.std.proofs.Common.{◌≡◌, map, drop, string_bytes}
use Rattle.std.specs.List.{list_any}
use Rattle.std.specs.Str.{bytes_eq}
use Rattle.kp_execute.proofs.listed_rules.is_among.Given as goal

abbrev pub invariant-loop-one : goal.invariant-loop-one
invariant-loop-one l = list_any (bytes_eq l.id) (map string_bytes l.ids) ≡ list_any (bytes_eq l.id) (map string_bytes (drop l.one-index l.ids))
