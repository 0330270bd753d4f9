use Rattle.std.proofs.Common.{◌≡◌, ◌++◌, map, drop}
use Rattle.kp_symbolic.specs.View.{literal_view}
use Rattle.kp_formulas.proofs.joined.share_literals.Given as goal

abbrev pub invariant-loop-literal : goal.invariant-loop-literal
invariant-loop-literal l = map literal_view l.shared.items ++ map literal_view (drop l.literal-index l.literals) ≡ map literal_view l.literals
