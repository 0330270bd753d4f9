use Rattle.kp_signature.specs.Table.{table_view}
use Rattle.kp_signature.proofs.HiddenOrder.{order_out}
use Rattle.kp_signature.proofs.declarations.Declarations.order.Goals as goal

pub returns : goal.returns
returns c = order_out (table_view c.args.self.now.table).subsorts c.args.self.now.order c.args.self.now.ordered
