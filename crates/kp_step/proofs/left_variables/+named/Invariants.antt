use Rattle.std.proofs.Common.{◌≡◌, true, map, drop, string_bytes}
use Rattle.kp_kore.specs.Instance.{is_named}
use Rattle.kp_rules.specs.Skeletons.{skeleton_view, forms_of}
use Rattle.kp_case_laws.specs.Courses.{all_form_variables}
use Rattle.kp_step.proofs.left_variables.+named.Given as goal

abbrev pub invariant-have_variable-loop-skeleton : goal.invariant-have_variable-loop-skeleton
invariant-have_variable-loop-skeleton l =
    is_named (string_bytes l.name.value) (all_form_variables (forms_of (map skeleton_view (drop l.skeleton-index l.skeletons)))) ≡ true → is_named (string_bytes l.name.value) (all_form_variables (forms_of (map skeleton_view l.skeletons))) ≡ true
