use Rattle.kp_examples.proofs.CounterCauses.{opposite_shown, square_shown}
use Rattle.kp_examples.proofs.causes.an_implication_shows_what_its_consequent_asks.Goals as goal

pub returns-clause-opposite : goal.returns-clause-opposite
returns-clause-opposite c = opposite_shown

pub returns-clause-itself : goal.returns-clause-itself
returns-clause-itself c = square_shown
