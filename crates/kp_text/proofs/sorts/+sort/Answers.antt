use Rattle.std.proofs.Common.{sym, subst}
use Rattle.kp_text.specs.Reads.{IsMarkAhead}
use Rattle.kp_text.proofs.Exits.{found_on, stopped_on}
use Rattle.kp_text.proofs.InSorts.{sorts_begin}
use Rattle.kp_text.proofs.sorts.+sort.Goals as goal

pub sorts-returns-in-None-clause-found : goal.sorts-returns-in-None-clause-found
sorts-returns-in-None-clause-found t c =
    let no = subst (IsMarkAhead c.args.tail c.args.text.now c.args.close) c.in-None.is c.in_ok-rest.ensures.found in
    found_on c.some_sorts.result _ _ _ (λ k. sym (sorts_begin c.args.tail c.args.text.now c.args.level c.args.close k no)) c.some_sorts.ensures.found

pub sorts-returns-in-None-clause-fault : goal.sorts-returns-in-None-clause-fault
sorts-returns-in-None-clause-fault t c =
    let no = subst (IsMarkAhead c.args.tail c.args.text.now c.args.close) c.in-None.is c.in_ok-rest.ensures.found in
    stopped_on c.some_sorts.result _ _ (λ k. sym (sorts_begin c.args.tail c.args.text.now c.args.level c.args.close k no)) c.some_sorts.ensures.fault
