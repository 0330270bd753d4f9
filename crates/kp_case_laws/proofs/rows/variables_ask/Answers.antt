use Rattle.kp_case_laws.proofs.OnRows.{on_anything, on_any, on_first, on_again, on_value, on_same_value}
use Rattle.kp_case_laws.proofs.rows.variables_ask.Goals as goal

pub returns-clause-anything : goal.returns-clause-anything
returns-clause-anything c = on_anything

pub returns-clause-any : goal.returns-clause-any
returns-clause-any c = on_any

pub returns-clause-first : goal.returns-clause-first
returns-clause-first c = on_first

pub returns-clause-again : goal.returns-clause-again
returns-clause-again c = on_again

pub returns-clause-value : goal.returns-clause-value
returns-clause-value c = on_value

pub returns-clause-same : goal.returns-clause-same
returns-clause-same c = on_same_value
