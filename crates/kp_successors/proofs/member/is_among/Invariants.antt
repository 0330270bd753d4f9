use Rattle.std.proofs.Common.{◌≡◌, map, drop}
use Rattle.kp_kore.specs.View.{sorted_variable_view}
use Rattle.kp_rules.specs.Known.{is_among}
use Rattle.kp_successors.proofs.member.is_among.Given as goal

abbrev pub invariant-loop-other : goal.invariant-loop-other
invariant-loop-other l =
    is_among (sorted_variable_view l.variable) (map sorted_variable_view l.variables)
    ≡ is_among (sorted_variable_view l.variable) (map sorted_variable_view (drop l.other-index l.variables))
