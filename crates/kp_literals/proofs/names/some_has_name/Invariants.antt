use Rattle.std.proofs.Common.{◌≡◌, map, drop}
use Rattle.kp_kore.specs.Instance.{is_named}
use Rattle.kp_symbolic.specs.States.{clause_variables}
use Rattle.kp_symbolic.specs.View.{literal_view}
use Rattle.kp_literals.proofs.names.some_has_name.Given as goal

abbrev pub invariant-loop-literal : goal.invariant-loop-literal
invariant-loop-literal l = is_named l.name (clause_variables (map literal_view l.literals)) ≡ is_named l.name (clause_variables (map literal_view (drop l.literal-index l.literals)))
