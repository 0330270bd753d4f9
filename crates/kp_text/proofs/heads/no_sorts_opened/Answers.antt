use Rattle.std.proofs.Common.{◌∙◌}
use Rattle.kp_text.specs.Next.{a_mark}
use Rattle.kp_text.proofs.Exits.{found_on, stopped_on}
use Rattle.kp_text.proofs.heads.no_sorts_opened.Goals as goal

pub returns-clause-found : goal.returns-clause-found
returns-clause-found c = found_on c.mark-3.result _ _ _ (λ k. c.in_ok-rest-2.ensures.found (a_mark 40 k) ∙ c.in_ok-rest.ensures.found (a_mark 125 (a_mark 40 k))) c.mark-3.ensures.found

pub returns-clause-fault : goal.returns-clause-fault
returns-clause-fault c = stopped_on c.mark-3.result _ _ (λ k. c.in_ok-rest-2.ensures.found (a_mark 40 k) ∙ c.in_ok-rest.ensures.found (a_mark 125 (a_mark 40 k))) c.mark-3.ensures.fault
