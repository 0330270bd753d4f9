use Rattle.kp_text.specs.Next.{after_module}
use Rattle.kp_text.proofs.Exits.{found_on, stopped_on}
use Rattle.kp_text.proofs.modules.a_module.Goals as goal

pub returns-clause-found : goal.returns-clause-found
returns-clause-found c = found_on c.after_module.result _ _ _ (λ k. c.in_ok-rest.ensures.found (after_module k)) c.after_module.ensures.found

pub returns-clause-fault : goal.returns-clause-fault
returns-clause-fault c = stopped_on c.after_module.result _ _ (λ k. c.in_ok-rest.ensures.found (after_module k)) c.after_module.ensures.fault
