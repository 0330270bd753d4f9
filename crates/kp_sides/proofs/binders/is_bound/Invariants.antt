use Rattle.std.proofs.Common.{◌≡◌, drop}
use Rattle.kp_kore.specs.Instance.{is_named}
use Rattle.kp_rules.specs.Shapes.{variables_seen}
use Rattle.kp_sides.proofs.binders.is_bound.Given as goal

abbrev pub invariant-loop-binder : goal.invariant-loop-binder
invariant-loop-binder l = is_named l.name (variables_seen l.binders) ≡ is_named l.name (variables_seen (drop l.binder-index l.binders))
