use Rattle.std.proofs.Common.{◌∙◌}
use Rattle.kp_kore.specs.View.{view}
use Rattle.kp_kore.specs.Instance.{conjoined_predicates}
use Rattle.kp_kore.specs.Rules.{constrained_term}
use Rattle.kp_rules.specs.Shapes.{side_view}
use Rattle.kp_claim_sentences.proofs.Noting.{some_both}
use Rattle.kp_claim_sentences.proofs.sides.has_term.Goals as goal

pub returns : goal.returns
returns c =
    let p = view c.args.pattern.now in
    c.is_some.ensures ∙ some_both side_view (λ t. (t, conjoined_predicates p)) c.in_ok-side.side (constrained_term p) c.in_ok-side.ensures
