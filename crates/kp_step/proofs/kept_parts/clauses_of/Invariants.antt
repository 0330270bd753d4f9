use Rattle.std.proofs.Common.{◌≡◌, ◌++◌, map, drop}
use Rattle.kp_symbolic.specs.Plain as model
use Rattle.kp_symbolic.specs.View as terms
use Rattle.kp_literals.specs.Readings.{clauses_view}
use Rattle.kp_step.proofs.kept_parts.clauses_of.Given as goal

abbrev pub invariant-loop-clause : goal.invariant-loop-clause
invariant-loop-clause l = terms.clauses_view l.found.items ++ map model.literals_of (clauses_view (drop l.clause-index l.clauses)) ≡ map model.literals_of (clauses_view l.clauses)
