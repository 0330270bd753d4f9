use Rattle.std.proofs.Common.{◌≡◌, map, drop}
use Rattle.kp_kore.specs.Instance.{is_named}
use Rattle.kp_formulas.specs.LeafView.{bound_view}
use Rattle.kp_formulas.proofs.question.is_bound.Given as goal

abbrev pub invariant-loop-variable : goal.invariant-loop-variable
invariant-loop-variable l = is_named l.name (map bound_view l.bound) ≡ is_named l.name (map bound_view (drop l.variable-index l.bound))
