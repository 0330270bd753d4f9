use Rattle.std.proofs.Common.{List, map, take}
use Rattle.kp_kore.specs.Syntax.{Text}
use Rattle.kp_kore.specs.View.{sort_view}
use Rattle.kp_names.specs.Met.{Lists}
use Rattle.kp_symbolic.specs.View.{variables_view}
use Rattle.kp_unify.specs.Names.{AreNextVariables}
use Rattle.kp_unify.proofs.new_names.new_variables.Given as goal

abbrev pub invariant-loop-sort : goal.invariant-loop-sort
invariant-loop-sort l = (used : List Text) → Lists used l.met → AreNextVariables used l.next (map sort_view (take l.sort-index l.sorts)) (variables_view l.variables.items) l.after
