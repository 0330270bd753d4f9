use Rattle.std.proofs.Common.{take}
use Rattle.std.specs.List.{AllZip}
use Rattle.kp_signature.specs.View.{signature_view}
use Rattle.kp_modules.specs.Axioms.{axioms_view}
use Rattle.kp_modules.specs.Extending.{AreAllSound, IsTakenFrom}
use Rattle.kp_modules.specs.Made.{AreRewriting}
use Rattle.kp_modules.proofs.extension.rules_read.Given as goal

abbrev pub invariant-loop-i : goal.invariant-loop-i
invariant-loop-i l =
    (AreRewriting (axioms_view l.axioms) → AllZip (IsTakenFrom (signature_view l.signature)) (axioms_view (take l.i l.axioms)) l.rules.items)
    × (AreRewriting (axioms_view l.axioms) → AreAllSound (signature_view l.signature) (axioms_view (take l.i l.axioms)))
