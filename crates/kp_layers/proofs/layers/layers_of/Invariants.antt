use Rattle.kp_layers.specs.Walks.{numbers_of, IsWalk, work_left}
use Rattle.kp_layers.proofs.layers.layers_of.Given as goal

abbrev pub invariant-loop-walk : goal.invariant-loop-walk
invariant-loop-walk l = IsWalk (numbers_of l.needs) l.walk

abbrev pub decreases-loop-walk : goal.decreases-loop-walk
decreases-loop-walk l = work_left l.walk
