use Rattle.std.proofs.Common.{◌≡◌, subst}
use Rattle.std.specs.Prelude.{IfSome}
use Rattle.kp_ground.specs.Slots.{left_variables}
use Rattle.kp_ground.specs.Solves.{bound_names}
use Rattle.kp_run.proofs.step.firing_of.Goals as goal

-- the bindings of a match are those of the left term
pub invariant_of-result : goal.invariant_of-result
invariant_of-result c = record { bound = subst (λ o. IfSome o (λ new. bound_names new.items ≡ left_variables c.in-Rewrite.rewrite.left)) c.in-Some.is c.in_ok-bindings-in-Rewrite.ensures.bound }
