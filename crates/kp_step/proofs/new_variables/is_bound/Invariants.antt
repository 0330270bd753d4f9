use Rattle.std.proofs.Common.{◌≡◌, map, drop, string_bytes}
use Rattle.std.specs.Prelude.{is_some}
use Rattle.kp_symbolic.specs.Terms.{replacement_for}
use Rattle.kp_symbolic.specs.View.{replaced_view}
use Rattle.kp_step.proofs.new_variables.is_bound.Given as goal

abbrev pub invariant-loop-binding : goal.invariant-loop-binding
invariant-loop-binding l = is_some (replacement_for (map replaced_view (drop l.binding-index l.bindings)) (string_bytes l.own.name)) ≡ is_some (replacement_for (map replaced_view l.bindings) (string_bytes l.own.name))
