use Rattle.std.proofs.Common.{◌≡◌, ◌++◌, map, drop}
use Rattle.std.specs.List.{flat_map}
use Rattle.kp_symbolic.specs.View.{atom_view, variables_view}
use Rattle.kp_implies.proofs.tellings.repeated.Given as goal

abbrev pub invariant-loop-step : goal.invariant-loop-step
invariant-loop-step l =
    map (λ a. atom_view a.now) l.found.items ++ flat_map (λ x. map atom_view l.all) (variables_view (drop l._step-index l.bound)) ≡ flat_map (λ x. map atom_view l.all) (variables_view l.bound)
