use Rattle.kp_symbolic.proofs.Written.{written_is}
use Rattle.kp_symbolic.proofs.laws.written_terms_have_the_instance.Goals as goal

pub returns : goal.returns
returns c = written_is
