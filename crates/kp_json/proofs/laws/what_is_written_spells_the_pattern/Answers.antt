use Rattle.kp_json.proofs.RoundTrip.{wrapped_written}
use Rattle.kp_json.proofs.laws.what_is_written_spells_the_pattern.Goals as goal

pub returns : goal.returns
returns c = wrapped_written
