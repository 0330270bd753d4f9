use Rattle.std.proofs.Common.{List, take, ◌++◌}
use Rattle.std.specs.List.{AllZip}
use Rattle.kp_kore.specs.Signature.{KoreSignature}
use Rattle.kp_kore.specs.Theory.{NumberedAxiom}
use Rattle.kp_modules.specs.Extending.{IsTakenFrom, AreTakenFrom}
use Rattle.kp_modules.proofs.joined_rules.add_own.Given as goal

abbrev pub invariant-loop-i : goal.invariant-loop-i
invariant-loop-i l = (g : KoreSignature) (before axioms : List NumberedAxiom) → AreTakenFrom g before l.fn.found.items → AllZip (IsTakenFrom g) axioms l.own → AreTakenFrom g (before ++ take l.i axioms) l.found.items
