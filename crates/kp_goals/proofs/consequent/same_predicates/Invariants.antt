use Rattle.std.proofs.Common.{◌≡◌, ◌++◌, drop}
use Rattle.kp_rules.specs.Shapes.{seen}
use Rattle.kp_goals.proofs.consequent.same_predicates.Given as goal

abbrev pub invariant-loop-predicate : goal.invariant-loop-predicate
invariant-loop-predicate l = seen l.found.items ++ seen (drop l.predicate-index l.predicates) ≡ seen l.predicates
