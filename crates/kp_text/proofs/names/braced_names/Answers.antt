use Rattle.kp_text.specs.Next.{names}
use Rattle.kp_text.proofs.Exits.{found_on, stopped_on}
use Rattle.kp_text.proofs.names.braced_names.Goals as goal

pub returns-clause-found : goal.returns-clause-found
returns-clause-found c = found_on c.names.result _ _ _ (λ k. c.in_ok-rest.ensures.found (names k)) c.names.ensures.found

pub returns-clause-fault : goal.returns-clause-fault
returns-clause-fault c = stopped_on c.names.result _ _ (λ k. c.in_ok-rest.ensures.found (names k)) c.names.ensures.fault
