use Rattle.std.proofs.Common.{refl}
use Rattle.kp_examples.proofs.claims.faults_of_claims.Goals as goal

pub returns : goal.returns
returns c = record { one_path = refl; unlabelled = refl; repeated = refl; foreign = refl; sorts = refl }
