use Rattle.std.proofs.Common.{◌≡◌, ◌++◌, map, drop}
use Rattle.kp_symbolic.specs.Plain as model
use Rattle.kp_symbolic.specs.View.{literal_view}
use Rattle.kp_literals.specs.Readings.{read_view}
use Rattle.kp_step.proofs.kept_parts.literals_of.Given as goal

abbrev pub invariant-loop-literal : goal.invariant-loop-literal
invariant-loop-literal l = map literal_view l.literals.items ++ model.literals_of (map read_view (drop l.literal-index l.clause)) ≡ model.literals_of (map read_view l.clause)
