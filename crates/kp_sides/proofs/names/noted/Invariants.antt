use Rattle.std.proofs.Common.{map, take, string_bytes}
use Rattle.kp_names.specs.Met.{Lists}
use Rattle.kp_sides.proofs.names.noted.Given as goal

abbrev pub invariant-loop-name : goal.invariant-loop-name
invariant-loop-name l = Lists (map string_bytes (take l.name-index l.found)) l.names
