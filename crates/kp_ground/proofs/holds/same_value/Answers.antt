use Rattle.kp_ground.proofs.ValueLists.{same_answer}
use Rattle.kp_ground.proofs.holds.same_value.Goals as goal

pub returns : goal.returns
returns c = same_answer c.equal.result _ _ c.equal.ensures
