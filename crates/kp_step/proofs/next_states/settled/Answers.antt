use Rattle.kp_symbolic.specs.View.{state_view}
use Rattle.kp_unify.specs.Views.{signature_of, numbered_view}
use Rattle.kp_step.proofs.SettledLemmas.{settled_part}
use Rattle.kp_step.proofs.next_states.settled.Goals as goal

pub returns : goal.returns
returns c used ready = settled_part (signature_of c.args.setting) used (numbered_view c.args.part) (state_view c.in_ok-settle.field-0) ready c.in_ok-settle.ensures.right c.in_ok-settle.ensures.solved
