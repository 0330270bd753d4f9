use Rattle.std.proofs.Common.{take}
use Rattle.std.specs.List.{AllByRecursion}
use Rattle.kp_heads.specs.Heads.{HasValue}
use Rattle.kp_signature.specs.View.{signature_view}
use Rattle.kp_symbolic.specs.View.{variables_view}
use Rattle.kp_satisfiability.proofs.decide_clauses.have_values.Given as goal

abbrev pub invariant-loop-variable : goal.invariant-loop-variable
invariant-loop-variable l = AllByRecursion (λ x. HasValue (signature_view l.signature) x.sort) (variables_view (take l.variable-index l.variables))
