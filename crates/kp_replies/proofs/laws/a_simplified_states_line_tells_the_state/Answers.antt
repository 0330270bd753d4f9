use Rattle.kp_replies.proofs.Alone.{simplified_line_alone}
use Rattle.kp_replies.proofs.laws.a_simplified_states_line_tells_the_state.Goals as goal

pub returns : goal.returns
returns c = simplified_line_alone
