use Rattle.kp_toys.proofs.Implications.{one_less_is_some_count, other_substitution}
use Rattle.kp_toys.proofs.implying.a_count_is_some_count.Goals as goal

pub returns-clause-right : goal.returns-clause-right
returns-clause-right c = one_less_is_some_count

pub returns-clause-wrong : goal.returns-clause-wrong
returns-clause-wrong c = other_substitution
