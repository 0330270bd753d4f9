use Rattle.std.proofs.Common.{◌++◌, List, map, take, string_bytes}
use Rattle.kp_kore.specs.Syntax.{Text}
use Rattle.kp_names.specs.Met.{Lists}
use Rattle.kp_outward.proofs.fresh.note_all.Given as goal

abbrev pub invariant-loop-name : goal.invariant-loop-name
invariant-loop-name l = (before : List Text) → Lists before l.fn.names → Lists (before ++ map string_bytes (take l.name-index l.used)) l.names
