use Rattle.std.proofs.Common.{take}
use Rattle.std.specs.List.{AllByRecursion}
use Rattle.kp_signature.specs.View.{signature_view}
use Rattle.kp_compile.specs.Parts.{seen}
use Rattle.kp_execute.specs.Checks.{IsSettled}
use Rattle.kp_execute.proofs.part_tests.are_settled.Given as goal

abbrev pub invariant-loop-i : goal.invariant-loop-i
invariant-loop-i l = AllByRecursion (IsSettled (signature_view l.signature)) (seen (take l.i l.patterns))
