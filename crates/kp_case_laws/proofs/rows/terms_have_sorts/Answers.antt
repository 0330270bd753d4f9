use Rattle.kp_case_laws.proofs.RowLemmas.{of_head}
use Rattle.kp_case_laws.proofs.SortLemmas.{by_form, by_value}
use Rattle.kp_case_laws.proofs.rows.terms_have_sorts.Goals as goal

pub returns-clause-by_form : goal.returns-clause-by_form
returns-clause-by_form c = by_form

pub returns-clause-by_head : goal.returns-clause-by_head
returns-clause-by_head c = of_head

pub returns-clause-by_heads : goal.returns-clause-by_heads
returns-clause-by_heads c = λ g p s x a. by_value g p s x a.0
