use Rattle.kp_history.specs.Passes.{IsPass}
use Rattle.kp_history_trials.proofs.work.work.Given as goal

abbrev pub invariant-loop-k : goal.invariant-loop-k
invariant-loop-k g l = IsPass l.history l.worker.pass
