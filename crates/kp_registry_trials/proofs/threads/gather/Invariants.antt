use Rattle.std.proofs.Common.{All}
use Rattle.kp_registry.specs.Registries.{IsPassOf}
use Rattle.kp_registry_trials.proofs.threads.gather.Given as goal

abbrev pub invariant-loop-worker : goal.invariant-loop-worker
invariant-loop-worker l = IsPassOf l.registry l.first × All (λ w. IsPassOf l.registry w.pass) l.workers.items

abbrev pub decreases-loop-worker : goal.decreases-loop-worker
decreases-loop-worker l = goal.left-loop-worker l
