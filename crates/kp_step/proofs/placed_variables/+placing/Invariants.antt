use Rattle.std.proofs.Common.{map, drop}
use Rattle.std.specs.List.{AllByRecursion}
use Rattle.kp_signature.specs.View.{signature_view}
use Rattle.kp_symbolic.specs.WellFormed.{AreWellPlaced}
use Rattle.kp_symbolic.specs.View.{replaced_view}
use Rattle.kp_rules.specs.Skeletons.{skeleton_view, forms_of}
use Rattle.kp_case_laws.specs.Parts.{StatePart}
use Rattle.kp_case_laws.specs.Courses.{IsBoundTo, all_form_variables}
use Rattle.kp_step.proofs.placed_variables.+placing.Given as goal

abbrev pub invariant-all_placed-loop-member : goal.invariant-all_placed-loop-member
invariant-all_placed-loop-member l =
    (p : StatePart) → AllByRecursion (IsBoundTo (signature_view l.signature) p (map replaced_view l.bindings)) (all_form_variables (forms_of (map skeleton_view l.members))) →
    AllByRecursion (IsBoundTo (signature_view l.signature) p (map replaced_view l.bindings)) (all_form_variables (forms_of (map skeleton_view (drop l.member-index l.members))))
    × (AreWellPlaced (signature_view l.signature) (map replaced_view l.bindings) (all_form_variables (forms_of (map skeleton_view (drop l.member-index l.members)))) → AreWellPlaced (signature_view l.signature) (map replaced_view l.bindings) (all_form_variables (forms_of (map skeleton_view l.members))))
