use Rattle.kp_text.proofs.Runs.{one_pattern}
use Rattle.kp_text.proofs.laws.a_text_spells_at_most_one_pattern.Goals as goal

pub returns : goal.returns
returns c = one_pattern
