use Rattle.kp_registry.proofs.Continuing.{goes_on}
use Rattle.kp_registry.proofs.laws.a_seen_book_goes_on.Goals as goal

pub returns : goal.returns
returns c = goes_on
