use Rattle.std.proofs.Common.{All}
use Rattle.kp_registry.specs.Registries.{IsPassOf}
use Rattle.kp_registry_trials.proofs.threads.eight_at_once.Given as goal

abbrev pub invariant-loop : goal.invariant-loop
invariant-loop g l = IsPassOf l.registry l.first × All (λ w. IsPassOf l.registry w.pass) l.workers.items
