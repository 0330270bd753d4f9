use Rattle.std.proofs.Common.{ap, ◌∙◌}
use Rattle.kp_kore.specs.View.{sort_view}
use Rattle.kp_signature.specs.View.{signature_view}
use Rattle.kp_literals.specs.Kinds.{lower_sorts, one_kind_of_tokens}
use Rattle.kp_literals.proofs.value_kinds.has_one_lower_kind.Goals as goal

pub returns : goal.returns
returns c =
    let g = signature_view c.args.signature.now in
    let s = sort_view c.args.sort.now in
    c.has_one_kind.ensures ∙ ap (λ ps. one_kind_of_tokens g s (lower_sorts ps)) c.subsorts.ensures
