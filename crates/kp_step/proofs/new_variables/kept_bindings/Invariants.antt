use Rattle.std.proofs.Common.{◌≡◌, ◌++◌, map, drop}
use Rattle.kp_kore.specs.View.{sorted_variable_view}
use Rattle.kp_symbolic.specs.View.{replaced_view}
use Rattle.kp_step.specs.Follows.{kept_bindings}
use Rattle.kp_step.proofs.new_variables.kept_bindings.Given as goal

abbrev pub invariant-loop-binding : goal.invariant-loop-binding
invariant-loop-binding l =
    let own = map sorted_variable_view l.own in
    map replaced_view l.kept.items ++ kept_bindings own (map replaced_view (drop l.binding-index l.bindings)) ≡ kept_bindings own (map replaced_view l.bindings)
