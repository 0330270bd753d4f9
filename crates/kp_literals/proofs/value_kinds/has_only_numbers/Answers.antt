use Rattle.std.proofs.Common.{sym, ◌∙◌}
use Rattle.kp_kore.specs.View.{sort_view}
use Rattle.kp_signature.specs.View.{signature_view}
use Rattle.kp_literals.proofs.KindLemmas.{numbers_are, number_sort_has}
use Rattle.kp_literals.proofs.value_kinds.has_only_numbers.Goals as goal

pub returns-then-is_number_sort : goal.returns-then-is_number_sort
returns-then-is_number_sort c = number_sort_has (signature_view c.args.signature.now) (sort_view c.args.sort.now) (sym c.is_number_sort.ensures ∙ c.if-is_number_sort.true)

pub returns : goal.returns
returns c = c.has_numbers_at_most.ensures ∙ numbers_are (signature_view c.args.signature.now) (sort_view c.args.sort.now)
