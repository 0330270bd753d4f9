use Rattle.std.proofs.Common.{◌↔◌, map, drop}
use Rattle.std.specs.List.{AllByRecursion}
use Rattle.kp_kore.specs.View.{sorted_variable_view}
use Rattle.kp_heads.specs.Heads.{HasValue}
use Rattle.kp_unify.specs.Views.{signature_of}
use Rattle.kp_step.proofs.right_side.have_values.Given as goal

abbrev pub invariant-loop-one : goal.invariant-loop-one
invariant-loop-one l = AllByRecursion (λ x. HasValue (signature_of l.setting) x.sort) (map sorted_variable_view (drop l.one-index l.own)) ↔ AllByRecursion (λ x. HasValue (signature_of l.setting) x.sort) (map sorted_variable_view l.own)
