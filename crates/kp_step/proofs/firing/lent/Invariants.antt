use Rattle.std.proofs.Common.{◌≡◌, ◌++◌, map, drop}
use Rattle.kp_kore.specs.View.{view}
use Rattle.kp_compile.specs.Parts.{seen}
use Rattle.kp_step.proofs.firing.lent.Given as goal

abbrev pub invariant-loop-pattern : goal.invariant-loop-pattern
invariant-loop-pattern l = seen l.found.items ++ map view (drop l.pattern-index l.patterns) ≡ map view l.patterns
