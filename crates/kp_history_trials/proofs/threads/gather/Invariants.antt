use Rattle.std.proofs.Common.{All}
use Rattle.kp_history.specs.Passes.{IsPass}
use Rattle.kp_history_trials.proofs.threads.gather.Given as goal

abbrev pub invariant-loop-worker : goal.invariant-loop-worker
invariant-loop-worker l = IsPass l.history l.first × All (λ w. IsPass l.history w.pass) l.workers.items

abbrev pub decreases-loop-worker : goal.decreases-loop-worker
decreases-loop-worker l = goal.left-loop-worker l
