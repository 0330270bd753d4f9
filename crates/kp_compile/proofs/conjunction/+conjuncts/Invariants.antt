use Rattle.std.proofs.Common.{◌≡◌, ◌++◌, drop}
use Rattle.kp_kore.specs.View.{patterns_view}
use Rattle.kp_kore.specs.Instance.{all_conjuncts}
use Rattle.kp_compile.specs.Parts.{seen}
use Rattle.kp_compile.proofs.conjunction.+conjuncts.Given as goal

abbrev pub invariant-add_all_conjuncts-loop-pattern : goal.invariant-add_all_conjuncts-loop-pattern
invariant-add_all_conjuncts-loop-pattern l =
    seen l.found.items ++ all_conjuncts (patterns_view (drop l.pattern-index l.patterns))
    ≡ seen l.fn.found.items ++ all_conjuncts (patterns_view l.patterns)
