use Rattle.kp_print.proofs.PrintedTexts.{printed_module}
use Rattle.kp_print.proofs.laws.a_printed_module_is_spelled.Goals as goal

pub returns : goal.returns
returns c = printed_module
