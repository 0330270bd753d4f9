use Rattle.std.proofs.Common.{◌≡◌, map, take}
use Rattle.kp_kore.specs.View.{view}
use Rattle.kp_kore.proofs.pattern.Pattern.+copy.Given as goal

abbrev pub invariant-copy_all-loop-pattern : goal.invariant-copy_all-loop-pattern
invariant-copy_all-loop-pattern l = map view l.copies.items ≡ map view (take l.pattern-index l.patterns)
