use Rattle.std.proofs.Common.{◌≡◌, ◌++◌, drop}
use Rattle.kp_kore.specs.Parts.{all_subpatterns}
use Rattle.kp_kore.specs.View.{patterns_view}
use Rattle.kp_compile.specs.Parts.{seen}
use Rattle.kp_compile.proofs.pattern_parts.+parts.Given as goal

abbrev pub invariant-add_all_subpatterns-loop-pattern : goal.invariant-add_all_subpatterns-loop-pattern
invariant-add_all_subpatterns-loop-pattern l =
    seen l.found.items ++ all_subpatterns (patterns_view (drop l.pattern-index l.patterns))
    ≡ seen l.fn.found.items ++ all_subpatterns (patterns_view l.patterns)
