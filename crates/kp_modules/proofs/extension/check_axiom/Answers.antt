use Rattle.kp_kore.specs.View.{view}
use Rattle.kp_signature.specs.Faults.{fault_view}
use Rattle.kp_signature.specs.View.{signature_view}
use Rattle.kp_modules.proofs.Unsound.{told_by_verify}
use Rattle.kp_modules.proofs.extension.check_axiom.Goals as goal

pub returns-in-Err-clause-err : goal.returns-in-Err-clause-err
returns-in-Err-clause-err c = told_by_verify (signature_view c.args.signature.now) (view c.args.pattern.now) c.args.number c.fault_of.result (fault_view c.in-Err.error) c.fault_of.ensures c.in-Err.ensures.fault
