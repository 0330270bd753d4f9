use Rattle.std.proofs.Common.{◌≡◌, ◌++◌, map, drop}
use Rattle.std.specs.List.{flat_map}
use Rattle.kp_symbolic.specs.View.{replaced_view}
use Rattle.kp_literals.specs.Readings.{clauses_view}
use Rattle.kp_goals.specs.Gives.{solved_by}
use Rattle.kp_goals.proofs.solved.solved_among.Given as goal

abbrev pub invariant-loop-clause : goal.invariant-loop-clause
invariant-loop-clause l = map replaced_view l.found.items ++ flat_map solved_by (clauses_view (drop l.clause-index l.clauses)) ≡ flat_map solved_by (clauses_view l.clauses)
