use Rattle.std.proofs.Common.{◌↔◌, drop}
use Rattle.std.specs.List.{AllByRecursion}
use Rattle.kp_heads.specs.Heads.{HasValue}
use Rattle.kp_signature.specs.View.{signature_view}
use Rattle.kp_symbolic.specs.View.{variables_view}
use Rattle.kp_implies.proofs.meeting.have_values.Given as goal

-- all have values where those that are left do
abbrev pub invariant-loop-variable : goal.invariant-loop-variable
invariant-loop-variable l =
    let g = signature_view l.signature in
    AllByRecursion (λ x. HasValue g x.sort) (variables_view (drop l.variable-index l.bound)) ↔ AllByRecursion (λ x. HasValue g x.sort) (variables_view l.bound)
