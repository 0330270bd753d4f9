use Rattle.std.proofs.Common.{ap}
use Rattle.kp_signature.specs.View.{signature_view}
use Rattle.kp_symbolic.specs.View.{clauses_view, state_view}
use Rattle.kp_step.proofs.ImpliedLemmas.{constrained_as_well}
use Rattle.kp_step.proofs.call_equalities.further.Goals as goal

pub returns : goal.returns
returns c =
    constrained_as_well (signature_view c.args.signature.now) (state_view c.args.state.now) c.deref.result.now c.deref-2.result.now c.in_ok-more.more.items c.with_more.result (ap clauses_view c.deref.ensures.value) c.in_ok-more.ensures c.deref-2.ensures.value c.with_more.ensures
