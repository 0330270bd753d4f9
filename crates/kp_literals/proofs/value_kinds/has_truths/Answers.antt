use Rattle.std.proofs.Common.{ap, ◌∙◌, ◌||◌}
use Rattle.kp_kore.specs.Signature.{boolean_sort, is_boolean_sort}
use Rattle.kp_kore.specs.View.{sort_view}
use Rattle.kp_signature.specs.View.{signature_view}
use Rattle.kp_literals.specs.Kinds.{lower_sorts, some_below}
use Rattle.kp_literals.proofs.KindLemmas.{sort_below}
use Rattle.kp_literals.proofs.value_kinds.has_truths.Goals as goal

pub returns : goal.returns
returns c =
    let g = signature_view c.args.signature.now in
    let s = sort_view c.args.sort.now in
    c.has_truths_by.ensures ∙ ap (λ ps. is_boolean_sort g s || some_below g s (is_boolean_sort g) (lower_sorts ps)) c.subsorts.ensures ∙ sort_below g s (boolean_sort g)
