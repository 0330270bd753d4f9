use Rattle.std.proofs.Common.{◌≡◌, true, map, drop}
use Rattle.std.specs.List.{AllByRecursion}
use Rattle.kp_kore.specs.Instance.{is_named}
use Rattle.kp_symbolic.specs.View.{replaced_view}
use Rattle.kp_rules.specs.Skeletons.{skeleton_view}
use Rattle.kp_case_laws.specs.Courses.{form_variables}
use Rattle.kp_step.proofs.left_variables.are_of_left.Given as goal

abbrev pub invariant-loop-binding : goal.invariant-loop-binding
invariant-loop-binding l =
    let left = form_variables (skeleton_view l.skeleton) in
    AllByRecursion (λ b. is_named b.name left ≡ true) (map replaced_view (drop l.binding-index l.bindings)) → AllByRecursion (λ b. is_named b.name left ≡ true) (map replaced_view l.bindings)
