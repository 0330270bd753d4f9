use Rattle.kp_text.specs.Heads.{a_fold}
use Rattle.kp_text.proofs.Exits.{found_on, stopped_on}
use Rattle.kp_text.proofs.heads.opened_fold_head.Goals as goal

pub returns-clause-found : goal.returns-clause-found
returns-clause-found c = found_on c.fold_head.result _ _ _ (λ k. c.in_ok-rest.ensures.found (a_fold c.args.level c.args.side k)) c.fold_head.ensures.found

pub returns-clause-fault : goal.returns-clause-fault
returns-clause-fault c = stopped_on c.fold_head.result _ _ (λ k. c.in_ok-rest.ensures.found (a_fold c.args.level c.args.side k)) c.fold_head.ensures.fault
