use Rattle.kp_symbolic.specs.View.{state_view}
use Rattle.kp_unify.specs.Views.{signature_of}
use Rattle.kp_step.proofs.AnswerLemmas.{says_some, says_none}
use Rattle.kp_step.proofs.part_answers.answer_by_solved.Goals as goal

pub returns-in-SomeValuation : goal.returns-in-SomeValuation
returns-in-SomeValuation c s p known shows = known.some (says_some (signature_of c.args.setting) (state_view c.args.solved.now) c.in_ok-decide.field-0 (c.in_ok-decide.ensures known.sorted) c.in-SomeValuation.is)

pub returns-in-NoValuation : goal.returns-in-NoValuation
returns-in-NoValuation c s p known shows = known.none (says_none (signature_of c.args.setting) (state_view c.args.solved.now) c.in_ok-decide.field-0 (c.in_ok-decide.ensures known.sorted) c.in-NoValuation.is)
