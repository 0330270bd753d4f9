use Rattle.kp_text.proofs.CompleteModules.{one_definition}
use Rattle.kp_text.proofs.laws.a_text_spells_at_most_one_definition.Goals as goal

pub returns : goal.returns
returns c = one_definition
