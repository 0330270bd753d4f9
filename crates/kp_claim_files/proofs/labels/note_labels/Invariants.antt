use Rattle.std.proofs.Common.{◌++◌, List, take}
use Rattle.kp_kore.specs.Syntax.{Text}
use Rattle.kp_kore.specs.View.{names_view}
use Rattle.kp_names.specs.Met.{Lists}
use Rattle.kp_claim_files.proofs.labels.note_labels.Given as goal

abbrev pub invariant-loop-label : goal.invariant-loop-label
invariant-loop-label l = (before : List Text) → Lists before l.fn.noted → Lists (before ++ names_view (take l.label-index l.labels)) l.noted
