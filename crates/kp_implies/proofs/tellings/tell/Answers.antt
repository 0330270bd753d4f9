use Rattle.std.proofs.Common.{◌∙◌, ap}
use Rattle.kp_symbolic.specs.View.{variables_view}
use Rattle.kp_implies.specs.Printed as model
use Rattle.kp_implies.proofs.tellings.tell.Goals as goal

pub returns-clause-left : goal.returns-clause-left
returns-clause-left c =
    let before = variables_view c.args.left.now in
    c.in_ok-others.ensures ∙ ap (λ xs. model.without (variables_view xs) before) c.deref.ensures.value ∙ ap (λ (t : model.Telling). model.without t.told before) c.in_ok-next.ensures
