use Rattle.kp_symbolic.specs.View.{state_view}
use Rattle.kp_unify.specs.Views.{signature_of}
use Rattle.kp_step.proofs.DecideLemmas.{no_instance}
use Rattle.kp_step.proofs.call_equalities.open_answer.Goals as goal

pub returns-then-branch : goal.returns-then-branch
returns-then-branch c s sorted shows = no_instance (signature_of c.args.setting) (state_view c.args.part.now) (c.in_ok-never_together.ensures sorted c.if-branch.true)
