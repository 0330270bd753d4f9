use Rattle.std.proofs.Common.{[], ◌∷◌}
use Rattle.kp_text.specs.Next.{more_modules}
use Rattle.kp_text.proofs.Exits.{answered_on, stopped_on}
use Rattle.kp_text.proofs.modules.some_modules.Goals as goal

pub returns-clause-found : goal.returns-clause-found
returns-clause-found c = answered_on c.other_modules.result _ _ _ (λ answer. c.in_ok-first.ensures.found (λ m. more_modules (m ∷ []) answer)) c.other_modules.ensures.found

pub returns-clause-fault : goal.returns-clause-fault
returns-clause-fault c = stopped_on c.other_modules.result _ _ (λ answer. c.in_ok-first.ensures.found (λ m. more_modules (m ∷ []) answer)) c.other_modules.ensures.fault
