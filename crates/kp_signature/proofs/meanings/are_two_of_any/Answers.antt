use Rattle.kp_signature.proofs.SortCounts.{two_of_any}
use Rattle.kp_signature.proofs.meanings.are_two_of_any.Goals as goal

pub returns : goal.returns
returns c = two_of_any c.args.sorts.now
