use Rattle.kp_case_laws.proofs.RowLemmas.{nothing_never, constructor_never, other_number_never, sort_never, other_value_never, no_shared_value, no_such_head}
use Rattle.kp_case_laws.proofs.rows.others_are_never_admitted.Goals as goal

pub returns-clause-nothing : goal.returns-clause-nothing
returns-clause-nothing c = nothing_never

pub returns-clause-head : goal.returns-clause-head
returns-clause-head c = constructor_never

pub returns-clause-number : goal.returns-clause-number
returns-clause-number c = other_number_never

pub returns-clause-sort : goal.returns-clause-sort
returns-clause-sort c = sort_never

pub returns-clause-value : goal.returns-clause-value
returns-clause-value c = other_value_never

pub returns-clause-no_shared_value : goal.returns-clause-no_shared_value
returns-clause-no_shared_value c = no_shared_value

pub returns-clause-no_such_head : goal.returns-clause-no_such_head
returns-clause-no_such_head c = no_such_head
