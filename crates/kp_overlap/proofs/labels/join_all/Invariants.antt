use Rattle.std.proofs.Common.{[]}
use Rattle.kp_overlap.specs.Joined.{AreJoined}
use Rattle.kp_overlap.proofs.labels.join_all.Given as goal

abbrev pub invariant-loop-pair : goal.invariant-loop-pair
invariant-loop-pair l = AreJoined l.shapes [] l.initial.classes l.classes
