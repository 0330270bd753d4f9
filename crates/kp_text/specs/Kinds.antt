-- The numbers of the kinds of faults.
use Rattle.std.specs.Prelude.{ℕ}
use Rattle.kp_text.specs.declared.fault.FaultKind.{FaultKind}
use Rattle.kp_text.specs.declared.fault.FaultKind.TheVariants as kind

abbrev pub kind_number : FaultKind → ℕ
kind_number kind.Byte = 1
kind_number kind.Token = 2
kind_number kind.String = 3
kind_number kind.Deep = 4
kind_number kind.End = 5
