use Rattle.kp_rules.specs.Skeletons.{skeleton_view}
use Rattle.kp_case_laws.specs.Courses.{form_variables}
use Rattle.kp_step.proofs.OneSortLemmas.{one_sort_each}
use Rattle.kp_step.proofs.left_variables.has_one_sort_each.Goals as goal

pub returns : goal.returns
returns c =
    let both = one_sort_each (form_variables (skeleton_view c.args.skeleton.now)) in
    ((λ t. both.0 (c.is_one.ensures.0 t)), (λ h. c.is_one.ensures.1 (both.1 h)))
