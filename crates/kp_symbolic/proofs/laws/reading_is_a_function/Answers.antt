use Rattle.kp_symbolic.proofs.ReadOnce.{read_once}
use Rattle.kp_symbolic.proofs.laws.reading_is_a_function.Goals as goal

pub returns : goal.returns
returns c = read_once
