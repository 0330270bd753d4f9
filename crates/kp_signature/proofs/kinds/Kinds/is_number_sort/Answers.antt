use Rattle.std.proofs.Common.{sym, ◌∙◌}
use Rattle.kp_kore.specs.View.{sort_view}
use Rattle.kp_signature.specs.Table.{table_view}
use Rattle.kp_signature.proofs.AloneLemmas.{number_sort_is, no_number_sort}
use Rattle.kp_signature.proofs.kinds.Kinds.is_number_sort.Goals as goal

pub returns-then-is_integer_sort : goal.returns-then-is_integer_sort
returns-then-is_integer_sort c = number_sort_is (table_view c.args.self.now.declarations.table) (sort_view c.args.sort.now) c.args.self.now.numbers_alone c.args.self.now.numbers_told (sym c.is_integer_sort.ensures ∙ c.if-is_integer_sort.true)

pub returns-else-is_integer_sort : goal.returns-else-is_integer_sort
returns-else-is_integer_sort c = no_number_sort (table_view c.args.self.now.declarations.table) (sort_view c.args.sort.now) (sym c.is_integer_sort.ensures ∙ c.if-is_integer_sort.false)
