use Rattle.kp_signature.specs.View.{signature_view}
use Rattle.kp_symbolic.specs.View.{state_view}
use Rattle.kp_step.proofs.kept_parts.is_empty.Goals as goal

pub returns : goal.returns
returns c = λ well. c.is_none.ensures (signature_view c.args.signature.now) (state_view c.args.state.now) (c.in_ok-verdict.ensures well)
