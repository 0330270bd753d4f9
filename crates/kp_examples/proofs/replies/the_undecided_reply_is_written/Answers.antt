use Rattle.std.proofs.Common.{refl}
use Rattle.std.specs.Fmt.{digits}
use Rattle.serde_json.proofs.OnLiterals.{serde_json_on_literals}
use Rattle.kp_examples.proofs.replies.the_undecided_reply_is_written.Goals as goal

pub returns : goal.returns
unfolding serde_json_on_literals digits
returns c = refl
