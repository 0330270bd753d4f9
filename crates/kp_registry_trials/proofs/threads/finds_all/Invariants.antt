use Rattle.kp_registry.specs.Registries.{IsPassOf}
use Rattle.kp_registry_trials.proofs.threads.finds_all.Given as goal

abbrev pub invariant-loop-k : goal.invariant-loop-k
invariant-loop-k g l = IsPassOf l.registry l.pass
