use Rattle.kp_print.proofs.PrintedTexts.{printed_pattern}
use Rattle.kp_print.proofs.laws.a_printed_pattern_is_spelled.Goals as goal

pub returns : goal.returns
returns c = printed_pattern
