use Rattle.std.proofs.Common.{◌≡◌, ◌++◌, map, drop, string_bytes}
use Rattle.kp_symbolic.specs.View.{variables_view}
use Rattle.kp_outward.proofs.incoming_names.add_names.Given as goal

abbrev pub invariant-loop-variable : goal.invariant-loop-variable
invariant-loop-variable l =
    map string_bytes l.found.items ++ map (λ x. x.name) (variables_view (drop l.variable-index l.variables))
    ≡ map string_bytes l.fn.found.items ++ map (λ x. x.name) (variables_view l.variables)
