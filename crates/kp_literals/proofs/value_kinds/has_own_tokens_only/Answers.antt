use Rattle.std.proofs.Common.{ap, ◌∙◌}
use Rattle.kp_kore.specs.View.{sort_view}
use Rattle.kp_signature.specs.View.{signature_view}
use Rattle.kp_literals.specs.Kinds.{lower_sorts, tokens_are}
use Rattle.kp_literals.proofs.value_kinds.has_own_tokens_only.Goals as goal

pub returns : goal.returns
returns c =
    let g = signature_view c.args.signature.now in
    let s = sort_view c.args.sort.now in
    c.are_tokens_of.ensures ∙ ap (λ ps. tokens_are g s s (lower_sorts ps)) c.subsorts.ensures
