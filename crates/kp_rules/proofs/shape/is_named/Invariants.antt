use Rattle.std.proofs.Common.{◌≡◌, drop}
use Rattle.kp_kore.specs.Instance.{is_named}
use Rattle.kp_rules.specs.Shapes.{variables_seen}
use Rattle.kp_rules.proofs.shape.is_named.Given as goal

abbrev pub invariant-loop-variable : goal.invariant-loop-variable
invariant-loop-variable l = is_named l.name (variables_seen l.variables) ≡ is_named l.name (variables_seen (drop l.variable-index l.variables))
