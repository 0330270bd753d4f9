use Rattle.kp_text.proofs.CompleteModules.{one_modules}
use Rattle.kp_text.proofs.laws.a_text_spells_modules_in_one_way.Goals as goal

pub returns : goal.returns
returns c = one_modules
