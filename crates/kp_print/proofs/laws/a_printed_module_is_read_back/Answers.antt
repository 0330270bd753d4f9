use Rattle.kp_text.proofs.CompleteModules.{one_module}
use Rattle.kp_text.proofs.FirstFaults.{not_module_and_fault}
use Rattle.kp_print.specs.Printed.{module_text}
use Rattle.kp_print.proofs.PrintedTexts.{printed_module}
use Rattle.kp_print.proofs.laws.a_printed_module_is_read_back.Goals as goal

pub returns-clause-value : goal.returns-clause-value
returns-clause-value c bytes m n spells read = one_module (module_text m) n m read (printed_module bytes m spells)

pub returns-clause-no_fault : goal.returns-clause-no_fault
returns-clause-no_fault c bytes m f spells fault = not_module_and_fault (module_text m) m f (printed_module bytes m spells) fault
