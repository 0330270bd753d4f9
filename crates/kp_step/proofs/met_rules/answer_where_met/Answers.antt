use Rattle.std.proofs.Common.{subst}
use Rattle.kp_symbolic.specs.View.{state_view}
use Rattle.kp_rules.specs.Skeletons.{skeleton_view}
use Rattle.kp_unify.specs.Views.{signature_of}
use Rattle.kp_step.specs.Answers.{IsRightAnswerOf}
use Rattle.kp_step.proofs.MeetLemmas.{instance_answer}
use Rattle.kp_step.proofs.met_rules.answer_where_met.Goals as goal

pub returns-in-Instance : goal.returns-in-Instance
returns-in-Instance c sorted met =
    let g = signature_of c.args.setting in
    let s = state_view c.args.state.now in
    let p = state_view c.args.part.now in
    instance_answer g s p (skeleton_view c.args.left.now) (subst (IsRightAnswerOf g s p) c.in-Instance.is (c.in_ok-answer_with_implied.ensures sorted)) met
