use Rattle.std.proofs.Common.{◌↔◌, map, drop}
use Rattle.kp_rules.specs.Skeletons.{skeleton_view, forms_of}
use Rattle.kp_case_laws.specs.Courses.{form_variables, all_form_variables}
use Rattle.kp_step.specs.OneSort.{HaveOnlySortsOf}
use Rattle.kp_step.proofs.left_variables.+each.Given as goal

abbrev pub invariant-are_one-loop-skeleton : goal.invariant-are_one-loop-skeleton
invariant-are_one-loop-skeleton l =
    HaveOnlySortsOf (form_variables (skeleton_view l.whole)) (all_form_variables (forms_of (map skeleton_view (drop l.skeleton-index l.skeletons))))
    ↔ HaveOnlySortsOf (form_variables (skeleton_view l.whole)) (all_form_variables (forms_of (map skeleton_view l.skeletons)))
