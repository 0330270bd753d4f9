use Rattle.std.proofs.Common.{List, take}
use Rattle.kp_kore.specs.Signature.{KoreSignature}
use Rattle.kp_kore.specs.Theory.{NumberedAxiom, labels_of}
use Rattle.kp_modules.specs.Extending.{AreTakenFrom}
use Rattle.kp_modules.specs.Labels.{Counts}
use Rattle.kp_modules.proofs.joined_rules.labels_in.Given as goal

abbrev pub invariant-loop-i : goal.invariant-loop-i
invariant-loop-i l = (g : KoreSignature) (axioms : List NumberedAxiom) → AreTakenFrom g axioms l.rules → Counts (labels_of (take l.i axioms)) l.labels
