use Rattle.std.proofs.Common.{◌↔◌, map, drop, string_bytes}
use Rattle.kp_kore.specs.View.{sort_view}
use Rattle.kp_rules.specs.Skeletons.{skeleton_view, forms_of}
use Rattle.kp_case_laws.specs.Courses.{all_form_variables}
use Rattle.kp_step.specs.OneSort.{HasOnly}
use Rattle.kp_step.proofs.left_variables.+only.Given as goal

abbrev pub invariant-have_only-loop-skeleton : goal.invariant-have_only-loop-skeleton
invariant-have_only-loop-skeleton l =
    HasOnly (string_bytes l.name.value) (sort_view l.sort) (all_form_variables (forms_of (map skeleton_view (drop l.skeleton-index l.skeletons))))
    ↔ HasOnly (string_bytes l.name.value) (sort_view l.sort) (all_form_variables (forms_of (map skeleton_view l.skeletons)))
