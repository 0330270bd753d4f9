use Rattle.kp_symbolic_laws.proofs.SoundCourse.{read_sound}
use Rattle.kp_symbolic_laws.proofs.solving.a_pattern_whose_large_clauses_have_room_has_its_instances.Goals as goal

pub returns : goal.returns
returns c = read_sound
