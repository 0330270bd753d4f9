use Rattle.kp_kore.specs.View.{sort_view}
use Rattle.kp_signature.specs.Table.{table_view}
use Rattle.kp_signature.proofs.AloneLemmas.{below_is}
use Rattle.kp_signature.proofs.declarations.Declarations.lies_below.Goals as goal

pub returns : goal.returns
returns c = below_is (table_view c.args.self.now.table).subsorts (sort_view c.args.lower.now) (sort_view c.args.upper.now) c.subsort.result c.subsort.ensures
