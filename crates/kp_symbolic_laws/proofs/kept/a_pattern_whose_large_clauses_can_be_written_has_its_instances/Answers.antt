use Rattle.kp_symbolic_laws.proofs.KeptCourse.{read_kept}
use Rattle.kp_symbolic_laws.proofs.kept.a_pattern_whose_large_clauses_can_be_written_has_its_instances.Goals as goal

pub returns : goal.returns
returns c = read_kept
