use Rattle.std.proofs.Common.{◌++◌, List, map, take}
use Rattle.kp_kore.specs.Syntax.{Text}
use Rattle.kp_kore.specs.View.{sorted_variable_view}
use Rattle.kp_names.specs.Met.{Lists}
use Rattle.kp_claim_sentences.proofs.names.note_all.Given as goal

abbrev pub invariant-loop-variable : goal.invariant-loop-variable
invariant-loop-variable l = (before : List Text) → Lists before l.fn.names → Lists (before ++ map (λ x. x.name) (map sorted_variable_view (take l.variable-index l.variables))) l.names
