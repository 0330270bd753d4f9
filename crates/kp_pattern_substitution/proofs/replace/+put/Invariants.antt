use Rattle.std.proofs.Common.{◌≡◌, ◌++◌, drop, map}
use Rattle.kp_kore.specs.View.{view}
use Rattle.kp_pattern_substitution.specs.Substitution.{substituted}
use Rattle.kp_pattern_substitution.specs.Seen.{lent_view}
use Rattle.kp_pattern_substitution.proofs.replace.+put.Given as goal

abbrev pub invariant-put_all-loop-pattern : goal.invariant-put_all-loop-pattern
invariant-put_all-loop-pattern l =
    map view l.found.items ++ map (λ p. substituted (lent_view l.replacements) (view p)) (drop l.pattern-index l.patterns)
    ≡ map (λ p. substituted (lent_view l.replacements) (view p)) l.patterns
