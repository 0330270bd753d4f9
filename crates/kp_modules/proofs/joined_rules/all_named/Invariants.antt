use Rattle.std.proofs.Common.{List, take}
use Rattle.kp_kore.specs.Syntax.{Text}
use Rattle.kp_kore.specs.Signature.{KoreSignature}
use Rattle.kp_kore.specs.Theory.{NumberedAxiom}
use Rattle.kp_modules.specs.Extending.{AreTakenFrom}
use Rattle.kp_modules.specs.Labels.{Counts}
use Rattle.kp_modules.specs.Made.{AreMadeOf}
use Rattle.kp_modules.proofs.joined_rules.all_named.Given as goal

abbrev pub invariant-loop-i : goal.invariant-loop-i
invariant-loop-i l = (g : KoreSignature) (names : List Text) (axioms : List NumberedAxiom) → Counts names l.labels → AreTakenFrom g axioms l.rules → AreMadeOf g names (take l.i axioms) l.found.items
