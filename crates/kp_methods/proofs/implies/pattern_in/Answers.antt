use Rattle.std.proofs.Common.{ap, refl}
use Rattle.kp_json.specs.View.{fault_view}
use Rattle.kp_requests.specs.View.{reading_view}
use Rattle.kp_methods.proofs.implies.pattern_in.Goals as goal

pub returns-in-Pattern-clause-found : goal.returns-in-Pattern-clause-found
returns-in-Pattern-clause-found c = ap reading_view c.in-Pattern.is

pub returns-in-Fault-clause-failed : goal.returns-in-Fault-clause-failed
returns-in-Fault-clause-failed c = (fault_view c.in-Fault.fault, ap reading_view c.in-Fault.is, refl)
