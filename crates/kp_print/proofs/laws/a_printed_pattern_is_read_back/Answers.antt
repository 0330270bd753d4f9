use Rattle.kp_text.proofs.FirstFaults.{not_pattern_and_fault}
use Rattle.kp_text.proofs.Runs.{one_pattern}
use Rattle.kp_print.specs.Printed.{pattern_text}
use Rattle.kp_print.proofs.PrintedTexts.{printed_pattern}
use Rattle.kp_print.proofs.laws.a_printed_pattern_is_read_back.Goals as goal

pub returns-clause-value : goal.returns-clause-value
returns-clause-value c bytes p q spells read = one_pattern (pattern_text p) q p read (printed_pattern bytes p spells)

pub returns-clause-no_fault : goal.returns-clause-no_fault
returns-clause-no_fault c bytes p f spells fault = not_pattern_and_fault (pattern_text p) p f (printed_pattern bytes p spells) fault
