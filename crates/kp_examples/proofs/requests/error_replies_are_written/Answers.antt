use Rattle.std.proofs.Common.{refl}
use Rattle.std.specs.Fmt.{digits}
use Rattle.serde_json.proofs.OnLiterals.{serde_json_on_literals}
use Rattle.kp_examples.proofs.requests.error_replies_are_written.Goals as goal

pub returns-clause-parse_error : goal.returns-clause-parse_error
unfolding serde_json_on_literals digits
returns-clause-parse_error c = refl

pub returns-clause-no_module : goal.returns-clause-no_module
unfolding serde_json_on_literals digits
returns-clause-no_module c = refl
