use Rattle.std.proofs.Common.{subst}
use Rattle.std.specs.Option.{option_map}
use Rattle.kp_kore.specs.View.{view}
use Rattle.kp_signature.specs.View.{signature_view}
use Rattle.kp_sides.specs.Sides.{IsFirstFault}
use Rattle.kp_sides.specs.View.{sides_fault_view}
use Rattle.kp_methods.proofs.implies.check_sides.Goals as goal

pub returns-in-Some-clause-failed : goal.returns-in-Some-clause-failed
returns-in-Some-clause-failed c =
    subst (λ o. IsFirstFault (signature_view c.args.signature.now) (view c.args.left.now) (view c.args.right.now) (option_map sides_fault_view o)) c.in-Some.is c.in_ok-fault.ensures

pub returns-in-None-clause-clear : goal.returns-in-None-clause-clear
returns-in-None-clause-clear c =
    subst (λ o. IsFirstFault (signature_view c.args.signature.now) (view c.args.left.now) (view c.args.right.now) (option_map sides_fault_view o)) c.in-None.is c.in_ok-fault.ensures
