use Rattle.std.proofs.Common.{◌≡◌, take}
use Rattle.kp_kore.specs.Parts.{most_term_depth}
use Rattle.kp_kore.specs.View.{patterns_view}
use Rattle.kp_simplify.proofs.depth.+depth.Given as goal

abbrev pub invariant-most_depth-loop-pattern : goal.invariant-most_depth-loop-pattern
invariant-most_depth-loop-pattern l = l.most ≡ most_term_depth (patterns_view (take l.pattern-index l.patterns))
