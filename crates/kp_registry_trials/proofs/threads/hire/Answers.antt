use Rattle.std.proofs.Common.{All, sym, subst}
use Rattle.std.proofs.lemmas.List.Elements.{All-push}
use Rattle.kp_registry.specs.Registries.{IsPassOf}
use Rattle.kp_registry_trials.proofs.threads.hire.Goals as goal

pub returns-in_ok-push-in-Ok-clause-workers : goal.returns-in_ok-push-in-Ok-clause-workers
returns-in_ok-push-in-Ok-clause-workers c =
    subst (All (λ w. IsPassOf c.args.registry.now w.pass)) (sym c.in_ok-push-in-Ok.ensures.items) (All-push (λ w. IsPassOf c.args.registry.now w.pass) _ _ c.requires.workers c.in-Ok.ensures.new.0)
