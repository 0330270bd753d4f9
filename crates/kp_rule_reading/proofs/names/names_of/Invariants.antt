use Rattle.kp_rule_reading.proofs.NameSets.{Fills}
use Rattle.kp_rule_reading.proofs.names.names_of.Given as goal

abbrev pub invariant-loop-variable : goal.invariant-loop-variable
invariant-loop-variable l = Fills l.names l.variables l.variable-index
