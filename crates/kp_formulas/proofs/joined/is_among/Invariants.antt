use Rattle.std.proofs.Common.{◌≡◌, map, drop}
use Rattle.std.specs.List.{list_any}
use Rattle.kp_symbolic.specs.Alike.{literals_same}
use Rattle.kp_symbolic.specs.View.{literal_view}
use Rattle.kp_formulas.proofs.joined.is_among.Given as goal

abbrev pub invariant-loop-other : goal.invariant-loop-other
invariant-loop-other l = list_any (literals_same (literal_view l.literal)) (map literal_view l.literals) ≡ list_any (literals_same (literal_view l.literal)) (map literal_view (drop l.other-index l.literals))
