use Rattle.std.proofs.Common.{sym, ◌∙◌}
use Rattle.kp_kore.specs.View.{view}
use Rattle.kp_signature.specs.View.{signature_view}
use Rattle.kp_rule_reading.proofs.ReadBodies.{fault_had}
use Rattle.kp_rule_reading.proofs.read.check_verified.Goals as goal

pub returns-clause-fault : goal.returns-clause-fault
returns-clause-fault c = λ is. fault_had (signature_view c.args.signature.now) (view c.args.pattern.now) c.in-Err.error c.in-Err.ensures.fault (sym c.fault_of.ensures ∙ is)
