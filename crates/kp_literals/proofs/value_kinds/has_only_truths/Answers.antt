use Rattle.std.proofs.Common.{sym, ◌∙◌}
use Rattle.kp_kore.specs.View.{sort_view}
use Rattle.kp_signature.specs.View.{signature_view}
use Rattle.kp_literals.proofs.KindLemmas.{truths_are, truth_sort_has}
use Rattle.kp_literals.proofs.value_kinds.has_only_truths.Goals as goal

pub returns-then-is_truth_sort : goal.returns-then-is_truth_sort
returns-then-is_truth_sort c = truth_sort_has (signature_view c.args.signature.now) (sort_view c.args.sort.now) (sym c.is_truth_sort.ensures ∙ c.if-is_truth_sort.true)

pub returns : goal.returns
returns c = c.has_truths_at_most.ensures ∙ truths_are (signature_view c.args.signature.now) (sort_view c.args.sort.now)
