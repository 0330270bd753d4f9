use Rattle.std.proofs.Common.{◌≡◌, map, drop}
use Rattle.kp_symbolic.specs.View.{literal_view}
use Rattle.kp_formulas.specs.Keys.{with_literals}
use Rattle.kp_formulas.proofs.keyed.with_literals.Given as goal

abbrev pub invariant-loop-literal : goal.invariant-loop-literal
invariant-loop-literal l = with_literals l.mixed (map literal_view (drop l.literal-index l.literals)) ≡ with_literals l.key (map literal_view l.literals)
