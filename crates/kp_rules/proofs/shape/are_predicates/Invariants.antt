use Rattle.std.proofs.Common.{◌≡◌, drop}
use Rattle.std.specs.List.{list_all}
use Rattle.kp_kore.specs.Instance.{is_predicate}
use Rattle.kp_rules.specs.Shapes.{seen}
use Rattle.kp_rules.proofs.shape.are_predicates.Given as goal

abbrev pub invariant-loop-pattern : goal.invariant-loop-pattern
invariant-loop-pattern l = list_all is_predicate (seen l.patterns) ≡ list_all is_predicate (seen (drop l.pattern-index l.patterns))
