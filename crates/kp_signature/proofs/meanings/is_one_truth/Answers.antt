use Rattle.std.proofs.Common.{sym, arith}
use Rattle.kp_kore.specs.Signature.{is_truth_sort}
use Rattle.kp_signature.specs.Table.{table_view}
use Rattle.kp_signature.proofs.SortCounts.{not_one_sort}
use Rattle.kp_signature.proofs.meanings.is_one_truth.Goals as goal

pub returns-in_default-2 : goal.returns-in_default-2
returns-in_default-2 c = sym (not_one_sort (is_truth_sort (table_view c.args.kinds.now.declarations.table)) c.args.sorts.now (λ e. omega arith))
