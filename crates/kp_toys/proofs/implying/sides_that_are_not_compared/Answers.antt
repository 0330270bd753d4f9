use Rattle.kp_toys.proofs.Implications.{binder_without_a_term, side_without_a_term, bound_and_free}
use Rattle.kp_toys.proofs.implying.sides_that_are_not_compared.Goals as goal

pub returns-clause-unused : goal.returns-clause-unused
returns-clause-unused c = binder_without_a_term

pub returns-clause-no_term : goal.returns-clause-no_term
returns-clause-no_term c = side_without_a_term

pub returns-clause-unclear : goal.returns-clause-unclear
returns-clause-unclear c = bound_and_free
