use Rattle.kp_text.proofs.FirstFaults.{pattern_or_fault, one_pattern_fault, not_pattern_and_fault}
use Rattle.kp_text.proofs.laws.a_text_spells_a_pattern_or_has_one_fault.Goals as goal

pub returns-clause-either : goal.returns-clause-either
returns-clause-either c = pattern_or_fault

pub returns-clause-one_fault : goal.returns-clause-one_fault
returns-clause-one_fault c = one_pattern_fault

pub returns-clause-not_both : goal.returns-clause-not_both
returns-clause-not_both c = not_pattern_and_fault
