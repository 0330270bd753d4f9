use Rattle.std.proofs.Common.{◌≡◌, ◌++◌, not, drop}
use Rattle.std.specs.List.{filter}
use Rattle.kp_kore.specs.Parts.{is_term}
use Rattle.kp_rules.specs.Shapes.{seen}
use Rattle.kp_rules.proofs.shape.others_among.Given as goal

abbrev pub invariant-loop-pattern : goal.invariant-loop-pattern
invariant-loop-pattern l =
    seen l.found.items ++ filter (λ p. not (is_term p)) (seen (drop l.pattern-index l.patterns)) ≡ filter (λ p. not (is_term p)) (seen l.patterns)
