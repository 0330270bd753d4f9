use Rattle.kp_examples.proofs.CaseLemmas.{pa_divides, head_left_out, both_kept}
use Rattle.kp_examples.proofs.cases.a_state_is_divided_by_a_constructor.Goals as goal

pub returns-clause-divided : goal.returns-clause-divided
returns-clause-divided c = pa_divides

pub returns-clause-left_out : goal.returns-clause-left_out
returns-clause-left_out c = head_left_out

pub returns-clause-kept : goal.returns-clause-kept
returns-clause-kept c = both_kept
