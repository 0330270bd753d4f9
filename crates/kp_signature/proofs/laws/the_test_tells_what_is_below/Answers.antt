use Rattle.kp_signature.proofs.Below.{is_below-Decides}
use Rattle.kp_signature.proofs.laws.the_test_tells_what_is_below.Goals as goal

pub returns : goal.returns
returns c = is_below-Decides
