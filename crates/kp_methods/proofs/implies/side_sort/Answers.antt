use Rattle.kp_kore.specs.View.{view}
use Rattle.kp_signature.specs.View.{signature_view}
use Rattle.kp_methods.proofs.implies.side_sort.Goals as goal

pub returns-in-Ok-clause-found : goal.returns-in-Ok-clause-found
returns-in-Ok-clause-found c = c.faultless_sort.ensures.found (view c.args.pattern.now) c.in-Ok.ensures.sort

pub returns-in-Ok-clause-failed : goal.returns-in-Ok-clause-failed
returns-in-Ok-clause-failed c = c.faultless_sort.ensures.failed (view c.args.pattern.now) c.in-Ok.ensures.sort

pub returns-in-Err-clause-failed : goal.returns-in-Err-clause-failed
returns-in-Err-clause-failed c = c.unverified.ensures (signature_view c.args.signature.now) (view c.args.pattern.now) (view c.args.body.now) c.in-Err.ensures.fault
