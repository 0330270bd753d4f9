use Rattle.kp_kore.specs.View.{view}
use Rattle.kp_signature.specs.View.{signature_view}
use Rattle.kp_claims.proofs.Claimed.{told_foreign}
use Rattle.kp_claims.proofs.sides.check_foreign.Goals as goal

pub returns-in-Some-clause-err : goal.returns-in-Some-clause-err
returns-in-Some-clause-err c = told_foreign (signature_view c.args.signature.now) (view c.args.pattern.now) c.in_ok-name.field-0 c.in-Some.name c.in-Some.is c.in_ok-name.ensures
