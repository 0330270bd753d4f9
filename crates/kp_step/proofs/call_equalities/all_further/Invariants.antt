use Rattle.kp_signature.specs.View.{signature_view}
use Rattle.kp_symbolic.specs.View.{state_view}
use Rattle.kp_step.specs.Implied.{CanBeAsWell}
use Rattle.kp_step.proofs.call_equalities.all_further.Given as goal

abbrev pub invariant-loop-round : goal.invariant-loop-round
invariant-loop-round l = CanBeAsWell (signature_view l.signature) (state_view l.fn.state) (state_view l.all)
