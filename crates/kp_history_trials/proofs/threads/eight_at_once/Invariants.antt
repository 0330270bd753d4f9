use Rattle.std.proofs.Common.{All}
use Rattle.kp_history.specs.Passes.{IsPass}
use Rattle.kp_history_trials.proofs.threads.eight_at_once.Given as goal

abbrev pub invariant-loop : goal.invariant-loop
invariant-loop g l = IsPass l.history l.first × All (λ w. IsPass l.history w.pass) l.workers.items
