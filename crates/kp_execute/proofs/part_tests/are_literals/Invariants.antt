use Rattle.std.proofs.Common.{◌≡◌, drop}
use Rattle.kp_kore.specs.Replies.{are_literals}
use Rattle.kp_kore.specs.View.{patterns_view}
use Rattle.kp_execute.proofs.part_tests.are_literals.Given as goal

abbrev pub invariant-loop-pattern : goal.invariant-loop-pattern
invariant-loop-pattern l = are_literals (patterns_view l.patterns) ≡ are_literals (patterns_view (drop l.pattern-index l.patterns))
