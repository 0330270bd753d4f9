use Rattle.std.proofs.Common.{List, take}
use Rattle.kp_kore.specs.Syntax.{Text}
use Rattle.kp_signature.specs.View.{signature_view}
use Rattle.kp_modules.specs.Axioms.{axioms_view}
use Rattle.kp_imports.specs.Faults.{AreSound}
use Rattle.kp_modules.specs.Labels.{Counts}
use Rattle.kp_modules.specs.Made.{AreMadeOf, AreRewriting}
use Rattle.kp_modules.proofs.rules.rules_among.Given as goal

abbrev pub invariant-loop-i : goal.invariant-loop-i
invariant-loop-i l =
    ((names : List Text) → Counts names l.labels → AreRewriting (axioms_view l.axioms) → AreMadeOf (signature_view l.signature) names (axioms_view (take l.i l.axioms)) l.rules.items)
    × (AreRewriting (axioms_view l.axioms) → AreSound (signature_view l.signature) (axioms_view (take l.i l.axioms)))
