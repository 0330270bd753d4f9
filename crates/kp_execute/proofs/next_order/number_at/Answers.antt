use Rattle.kp_execute.proofs.OrderLemmas.{number_is}
use Rattle.kp_execute.proofs.next_order.number_at.Goals as goal

pub returns-in-Some : goal.returns-in-Some
returns-in-Some c t runs = number_is t c.args.place c.priority_at.result c.in-Some.field-0.now (c.in-Some.ensures t runs) (c.priority_at.ensures t runs)
