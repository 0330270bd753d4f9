use Rattle.std.proofs.Common.{ap}
use Rattle.kp_imports.specs.Faults.{fault_view, told_fault}
use Rattle.kp_program.proofs.trouble.module_trouble.Goals as goal

pub returns-in-Fault : goal.returns-in-Fault
returns-in-Fault c = λ file main d fits spells tells.
    c.file_trouble.ensures.definition file main (fits, d, spells, tells (told_fault c.in-Fault.fault) (ap fault_view c.in-Fault.is))
