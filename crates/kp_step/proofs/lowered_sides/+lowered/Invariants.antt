use Rattle.kp_signature.specs.View.{signature_view}
use Rattle.kp_rules.specs.Skeletons.{skeleton_view}
use Rattle.kp_case_laws.specs.Courses.{form_variables}
use Rattle.kp_step.proofs.LoweredLemmas.{AreMade}
use Rattle.kp_step.proofs.lowered_sides.+lowered.Given as goal

abbrev pub invariant-all_lowered-loop-skeleton : goal.invariant-all_lowered-loop-skeleton
invariant-all_lowered-loop-skeleton l =
    AreMade (signature_view l.signature) (form_variables (skeleton_view l.whole)) l.skeletons l.skeleton-index l.made.items
