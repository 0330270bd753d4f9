use Rattle.std.proofs.Common.{◌≡◌, ◌++◌, true, false, map, drop}
use Rattle.kp_kore.specs.View.{patterns_view}
use Rattle.kp_symbolic.specs.Opening.{all_opened, opened_leaf}
use Rattle.kp_symbolic.specs.Languages.{language_view}
use Rattle.kp_symbolic.specs.View.{replaced_view}
use Rattle.kp_formulas.specs.Distribution.{distributions_of}
use Rattle.kp_formulas.specs.DistributionView.{distributed_view}
use Rattle.kp_clauses.proofs.opened.+open.Given as goal

abbrev pub invariant-open_each-loop-pattern : goal.invariant-open_each-loop-pattern
invariant-open_each-loop-pattern l =
    (map distributed_view l.holding.items ++ distributions_of (all_opened (opened_leaf (language_view l.language) (map replaced_view l.replaced)) l.alone.yes true (patterns_view (drop l.pattern-index l.patterns)))
    ≡ distributions_of (all_opened (opened_leaf (language_view l.language) (map replaced_view l.replaced)) l.alone.yes true (patterns_view l.patterns)))
    × (map distributed_view l.failing.items ++ distributions_of (all_opened (opened_leaf (language_view l.language) (map replaced_view l.replaced)) l.alone.no false (patterns_view (drop l.pattern-index l.patterns)))
    ≡ distributions_of (all_opened (opened_leaf (language_view l.language) (map replaced_view l.replaced)) l.alone.no false (patterns_view l.patterns)))
