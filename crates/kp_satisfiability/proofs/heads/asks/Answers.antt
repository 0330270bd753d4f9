use Rattle.kp_demands.proofs.Lists.{image_at}
use Rattle.kp_literals.specs.Readings.{read_view}
use Rattle.kp_satisfiability.specs.Heads.{IsStanding}
use Rattle.kp_satisfiability.proofs.heads.asks.Goals as goal

pub returns-then-asks_for : goal.returns-then-asks_for
returns-then-asks_for c = λ g cs all t. c.asks_for.ensures g cs (image_at (λ r. IsStanding g cs r.form) read_view c.args.clause.now c.loop-literal.literal-index c.literal-item.result c.loop-literal-test.true c.literal-item.is all) c.if-asks_for.true
