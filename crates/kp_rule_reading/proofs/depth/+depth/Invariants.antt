use Rattle.std.proofs.Common.{◌↔◌, ◌≤◌, drop}
use Rattle.kp_kore.specs.Parts.{most_term_depth}
use Rattle.kp_kore.specs.View.{patterns_view}
use Rattle.kp_rule_reading.proofs.depth.+depth.Given as goal

abbrev pub invariant-all_are_within-loop-pattern : goal.invariant-all_are_within-loop-pattern
invariant-all_are_within-loop-pattern l =
    (most_term_depth (patterns_view l.patterns) ≤ l.levels) ↔ (most_term_depth (patterns_view (drop l.pattern-index l.patterns)) ≤ l.levels)
