use Rattle.kp_service.proofs.Growing.{was_legal}
use Rattle.kp_service.proofs.laws.what_was_seen_was_legal.Goals as goal

pub returns : goal.returns
returns c = was_legal
