use Rattle.std.proofs.Common.{◌≡◌, drop}
use Rattle.kp_kore.specs.Instance.{Valuation}
use Rattle.kp_ground.specs.Solves.{Solves}
use Rattle.kp_rules.specs.WideParts.{all_narrow}
use Rattle.kp_successors.proofs.narrow.evaluate_each.Given as goal

abbrev pub invariant-loop-term : goal.invariant-loop-term
invariant-loop-term l = (v : Valuation) → Solves v l.bindings → all_narrow v l.terms ≡ all_narrow v (drop l.term-index l.terms)
