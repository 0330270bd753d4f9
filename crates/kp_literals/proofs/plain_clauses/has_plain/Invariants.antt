use Rattle.std.proofs.Common.{◌≡◌, map, drop}
use Rattle.std.specs.List.{list_any}
use Rattle.kp_symbolic.specs.Plain.{has_form}
use Rattle.kp_literals.specs.Readings.{read_view}
use Rattle.kp_literals.proofs.plain_clauses.has_plain.Given as goal

abbrev pub invariant-loop-literal : goal.invariant-loop-literal
invariant-loop-literal l = list_any has_form (map read_view l.clause) ≡ list_any has_form (map read_view (drop l.literal-index l.clause))
