use Rattle.std.proofs.Common.{[]}
use Rattle.kp_symbolic.proofs.Exact.{plain_is_decided}
use Rattle.kp_symbolic.proofs.NumericNames.{names_are_counted}
use Rattle.kp_symbolic.proofs.ReadOnce.{easy_is_plain, easy_is_within}
use Rattle.kp_symbolic.proofs.verdicts.easy_states_are_decided.Goals as goal

pub returns-clause-plain : goal.returns-clause-plain
returns-clause-plain c = easy_is_plain

pub returns-clause-limits : goal.returns-clause-limits
returns-clause-limits c = λ g s e a. easy_is_within g s e (names_are_counted g s a)

pub returns-clause-decided : goal.returns-clause-decided
returns-clause-decided c = λ g s a r e h. plain_is_decided g s a r (easy_is_plain g s [] e) (easy_is_within g s e (names_are_counted g s h))
