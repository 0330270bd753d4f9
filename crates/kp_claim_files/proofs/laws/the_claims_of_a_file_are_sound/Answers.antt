use Rattle.kp_claim_files.proofs.SoundClaims.{claims_are_sound}
use Rattle.kp_claim_files.proofs.laws.the_claims_of_a_file_are_sound.Goals as goal

pub returns : goal.returns
returns c g ss cs faultless are = claims_are_sound g ss cs faultless.faultless are
