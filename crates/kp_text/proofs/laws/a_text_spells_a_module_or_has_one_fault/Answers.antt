use Rattle.kp_text.proofs.FirstFaults.{module_or_fault, one_module_fault, not_module_and_fault}
use Rattle.kp_text.proofs.laws.a_text_spells_a_module_or_has_one_fault.Goals as goal

pub returns-clause-either : goal.returns-clause-either
returns-clause-either c = module_or_fault

pub returns-clause-one_fault : goal.returns-clause-one_fault
returns-clause-one_fault c = one_module_fault

pub returns-clause-not_both : goal.returns-clause-not_both
returns-clause-not_both c = not_module_and_fault
