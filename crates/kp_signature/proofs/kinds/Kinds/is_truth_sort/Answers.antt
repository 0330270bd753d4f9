use Rattle.std.proofs.Common.{sym, ◌∙◌}
use Rattle.kp_kore.specs.View.{sort_view}
use Rattle.kp_signature.specs.Table.{table_view}
use Rattle.kp_signature.proofs.AloneLemmas.{truth_sort_is, no_truth_sort}
use Rattle.kp_signature.proofs.kinds.Kinds.is_truth_sort.Goals as goal

pub returns-then-is_boolean_sort : goal.returns-then-is_boolean_sort
returns-then-is_boolean_sort c = truth_sort_is (table_view c.args.self.now.declarations.table) (sort_view c.args.sort.now) c.args.self.now.truths_alone c.args.self.now.truths_told (sym c.is_boolean_sort.ensures ∙ c.if-is_boolean_sort.true)

pub returns-else-is_boolean_sort : goal.returns-else-is_boolean_sort
returns-else-is_boolean_sort c = no_truth_sort (table_view c.args.self.now.declarations.table) (sort_view c.args.sort.now) (sym c.is_boolean_sort.ensures ∙ c.if-is_boolean_sort.false)
