use Rattle.std.proofs.Common.{◌≡◌, drop}
use Rattle.kp_kore.specs.View.{patterns_view}
use Rattle.kp_kore.specs.Instance.{are_predicates}
use Rattle.kp_compile.proofs.form.+predicate.Given as goal

abbrev pub invariant-are_predicates-loop-pattern : goal.invariant-are_predicates-loop-pattern
invariant-are_predicates-loop-pattern l = are_predicates (patterns_view l.patterns) ≡ are_predicates (patterns_view (drop l.pattern-index l.patterns))
