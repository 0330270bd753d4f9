use Rattle.kp_toys.proofs.Sorts.{num_fires_on_numbers, num_keeps_nil}
use Rattle.kp_toys.proofs.stepping.a_rule_fires_on_values_of_its_sorts.Goals as goal

pub returns-clause-number : goal.returns-clause-number
returns-clause-number c = num_fires_on_numbers

pub returns-clause-nil : goal.returns-clause-nil
returns-clause-nil c = num_keeps_nil
