use Rattle.std.proofs.Common.{sym, subst, map}
use Rattle.std.specs.List.{AllByRecursion}
use Rattle.kp_demands.proofs.Lists.{image_at}
use Rattle.kp_literals.specs.Readings.{read_view}
use Rattle.kp_satisfiability.specs.Heads.{IsStanding}
use Rattle.kp_satisfiability.proofs.heads.is_asked.Goals as goal

pub returns-then-asks : goal.returns-then-asks
returns-then-asks c = λ g cs all t.
    let Stand = AllByRecursion (λ r. IsStanding g cs r.form) in
    let own = image_at Stand (λ d. map read_view d.items) c.args.clauses.now c.loop-clause.clause-index c.clause-item.result c.loop-clause-test.true c.clause-item.is all in
    c.asks.ensures g cs (subst (λ d. Stand (map read_view d)) (sym c.deref.ensures.value) own) c.if-asks.true
