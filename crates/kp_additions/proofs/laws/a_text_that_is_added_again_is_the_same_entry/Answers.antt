use Rattle.kp_text.proofs.CompleteModules.{one_module}
use Rattle.kp_additions.proofs.Again.{same_entry}
use Rattle.kp_additions.proofs.laws.a_text_that_is_added_again_is_the_same_entry.Goals as goal

pub returns : goal.returns
returns c = same_entry one_module
