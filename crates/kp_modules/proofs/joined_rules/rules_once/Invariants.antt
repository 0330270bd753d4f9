use Rattle.std.proofs.Common.{List, take}
use Rattle.std.specs.List.{flat_map}
use Rattle.kp_kore.specs.Signature.{KoreSignature}
use Rattle.kp_kore.specs.Theory.{NumberedAxiom}
use Rattle.kp_modules.specs.Extending.{AreSetsOf, AreGathered}
use Rattle.kp_modules.proofs.joined_rules.rules_once.Given as goal

abbrev pub invariant-loop-i : goal.invariant-loop-i
invariant-loop-i l = (g : KoreSignature) (lists : List (List NumberedAxiom)) → AreSetsOf g lists l.sets → AreGathered g (flat_map (λ x. x) (take l.i lists)) l.met l.found.items
