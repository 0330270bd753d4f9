use Rattle.std.proofs.Common.{ap, ◌∙◌}
use Rattle.kp_kore.specs.View.{view, sort_view}
use Rattle.kp_signature.specs.View.{signature_view}
use Rattle.kp_methods.proofs.ExecutedEnds.{state_over}
use Rattle.kp_methods.proofs.execute_by_values.end_of.Goals as goal

pub returns-in-Ok : goal.returns-in-Ok
returns-in-Ok c = λ t runs verified.
    let p = view c.args.pattern.now in
    let start = state_over (signature_view c.deref.result.now) t.signature (ap signature_view c.deref.ensures ∙ runs.signature) p (sort_view c.args.sort) c.in-Ok.state verified
    c.in-Ok.ensures.no_foreign c.in-Ok.ensures.shape (ap sort_view c.in-Ok.ensures.sort) c.in-Ok.ensures.state in
    c.end_from.ensures t p runs start (c.lists_rules.ensures c.if-lists_rules.false)
