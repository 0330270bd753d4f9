use Rattle.std.proofs.Common.{◌≡◌, ◌++◌, map, drop, string_bytes}
use Rattle.std.specs.List.{flat_map}
use Rattle.kp_compile.specs.Parts.{seen}
use Rattle.kp_kore.specs.Parts.{names_at}
use Rattle.kp_sides.proofs.names.add_names_at.Given as goal

abbrev pub invariant-loop-pattern : goal.invariant-loop-pattern
invariant-loop-pattern l =
    map string_bytes l.found.items ++ flat_map names_at (seen (drop l.pattern-index l.patterns)) ≡ map string_bytes l.initial.found.items ++ flat_map names_at (seen l.patterns)
