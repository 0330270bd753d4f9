use Rattle.kp_text.proofs.CompleteModules.{one_module}
use Rattle.kp_text.proofs.laws.a_text_spells_at_most_one_module.Goals as goal

pub returns : goal.returns
returns c = one_module
