use Rattle.std.proofs.Common.{take}
use Rattle.kp_kore.specs.Theory.{labels_of}
use Rattle.kp_modules.specs.Axioms.{axioms_view}
use Rattle.kp_modules.specs.Labels.{Counts}
use Rattle.kp_modules.proofs.labels.labels_of.Given as goal

abbrev pub invariant-loop-i : goal.invariant-loop-i
invariant-loop-i l = Counts (labels_of (axioms_view (take l.i l.axioms))) l.labels
