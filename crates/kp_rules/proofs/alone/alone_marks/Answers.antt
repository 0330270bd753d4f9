use Rattle.std.proofs.Common.{subst}
use Rattle.kp_rules.specs.Index.{AreStraightBy}
use Rattle.kp_rules.proofs.AloneLemmas.{all_alone}
use Rattle.kp_rules.proofs.alone.alone_marks.Goals as goal

pub returns : goal.returns
returns c pairs order i m =
    let x = c.args.order.now.graph in
    let narrow = c.in_ok-narrow.narrow.items in
    all_alone pairs x order.graph narrow c.in_ok-straight_marks.field-0.items
    (subst (λ l. AreStraightBy l narrow c.in_ok-straight_marks.field-0.items) c.deref.ensures.value (subst (λ l. AreStraightBy c.deref.result.now l c.in_ok-straight_marks.field-0.items) c.deref-2.ensures.value c.in_ok-straight_marks.ensures))
    (c.in_ok-narrow.ensures pairs order) i m
