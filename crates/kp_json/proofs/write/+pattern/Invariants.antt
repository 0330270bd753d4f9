use Rattle.std.proofs.Common.{◌≡◌, drop}
use Rattle.kp_kore.specs.View.{patterns_view}
use Rattle.kp_json.specs.Written.{pattern_trees}
use Rattle.kp_json.proofs.Writes.{patterns_written}
use Rattle.kp_json.proofs.write.+pattern.Given as goal

abbrev pub invariant-pattern_values-loop-pattern : goal.invariant-pattern_values-loop-pattern
invariant-pattern_values-loop-pattern l = pattern_trees (patterns_view l.initial.patterns) ≡ patterns_written l.values.items (drop l.pattern-index l.patterns)
