use Rattle.std.proofs.Common.{List}
use Rattle.kp_kore.specs.Syntax.{Text}
use Rattle.kp_rules.specs.Skeletons.{Form}
use Rattle.kp_case_laws.specs.Parts.{StatePart}
use Rattle.kp_unify.specs.Views.{signature_of, stage_view, IsSetting}
use Rattle.kp_unify.specs.Way.{IsGone}
use Rattle.kp_unify.proofs.meeting.run.Given as goal

abbrev pub invariant-loop-step : goal.invariant-loop-step
invariant-loop-step l =
    (used : List Text) (left : Form) (p : StatePart) → IsSetting used l.setting → IsGone (signature_of l.setting) used left p (stage_view l.fn.course) →
    IsGone (signature_of l.setting) used left p (stage_view l.course)
