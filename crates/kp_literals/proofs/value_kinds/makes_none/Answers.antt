use Rattle.std.proofs.Common.{ap, ◌∙◌}
use Rattle.kp_kore.specs.View.{sort_view}
use Rattle.kp_signature.specs.View.{signature_view}
use Rattle.kp_literals.specs.Kinds.{no_constructors_among}
use Rattle.kp_literals.proofs.value_kinds.makes_none.Goals as goal

pub returns : goal.returns
returns c =
    let g = signature_view c.args.signature.now in
    let s = sort_view c.args.sort.now in
    c.has_no_constructors.ensures ∙ ap (λ ps. no_constructors_among g s ps) c.symbols.ensures
