use Rattle.std.proofs.Common.{List, take, ◌++◌}
use Rattle.std.specs.List.{AllZip}
use Rattle.kp_kore.specs.Signature.{KoreSignature}
use Rattle.kp_kore.specs.Theory.{NumberedAxiom}
use Rattle.kp_modules.specs.Extending.{IsTakenFrom, AreGathered}
use Rattle.kp_modules.proofs.joined_rules.gather.Given as goal

abbrev pub invariant-loop-i : goal.invariant-loop-i
invariant-loop-i l = (g : KoreSignature) (passed axioms : List NumberedAxiom) → AllZip (IsTakenFrom g) axioms l.rules → AreGathered g passed l.fn.met l.fn.found.items → AreGathered g (passed ++ take l.i axioms) l.met l.found.items
