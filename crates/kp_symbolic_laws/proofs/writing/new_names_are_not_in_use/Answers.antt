use Rattle.kp_symbolic_laws.proofs.NewNames.{least_is_new, new_apart, new_are_variables}
use Rattle.kp_symbolic_laws.proofs.writing.new_names_are_not_in_use.Goals as goal

pub returns-clause-least : goal.returns-clause-least
returns-clause-least c = least_is_new

pub returns-clause-variables : goal.returns-clause-variables
returns-clause-variables c = new_apart

pub returns-clause-apart : goal.returns-clause-apart
returns-clause-apart c = new_are_variables
