use Rattle.kp_symbolic_laws.proofs.Sound.{place_sound}
use Rattle.kp_symbolic_laws.proofs.writing.verified_predicates_are_sound.Goals as goal

pub returns : goal.returns
returns c = place_sound
