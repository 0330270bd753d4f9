use Rattle.kp_signature.specs.Table.{table_view}
use Rattle.kp_signature.proofs.declarations.Declarations.subsort.Goals as goal

pub returns : goal.returns
returns c = c.is_below.ensures (table_view c.args.self.now.table).subsorts c.order.ensures
