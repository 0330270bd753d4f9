use Rattle.std.proofs.Common.{refl}
use Rattle.kp_demands.proofs.known_bounds.passes.Goals as goal

pub returns-in-No-clause-no : goal.returns-in-No-clause-no
returns-in-No-clause-no c _ = c.in-No.ensures.no refl
