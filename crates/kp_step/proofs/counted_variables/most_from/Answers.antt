use Rattle.std.proofs.Common.{ap, ◌∙◌}
use Rattle.kp_symbolic.specs.Shown.{whole_variables}
use Rattle.kp_symbolic.specs.View.{variables_view, state_view}
use Rattle.kp_unify.specs.Views.{signature_of}
use Rattle.kp_step.proofs.CountLemmas.{counted_from}
use Rattle.kp_step.proofs.counted_variables.most_from.Goals as goal

pub returns : goal.returns
returns c =
    counted_from (signature_of c.args.setting) (state_view c.args.state.now) c.in_ok-begun.begun c.args.places c.in_ok-each_place.field-0 c.plus.result (c.in_ok-begun.ensures ∙ ap (λ xs. whole_variables (signature_of c.args.setting) (variables_view xs)) c.deref.ensures.value) c.in_ok-each_place.ensures c.plus.ensures
