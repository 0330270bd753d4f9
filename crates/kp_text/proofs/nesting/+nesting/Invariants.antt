use Rattle.std.proofs.Common.{◌≡◌, min, take}
use Rattle.kp_kore.specs.Parts.{most_nesting}
use Rattle.kp_kore.specs.View.{patterns_view}
use Rattle.kp_text.proofs.nesting.+nesting.Given as goal

abbrev pub invariant-most_nesting-loop-pattern : goal.invariant-most_nesting-loop-pattern
invariant-most_nesting-loop-pattern l = l.most ≡ min (most_nesting (patterns_view (take l.pattern-index l.patterns))) 257
