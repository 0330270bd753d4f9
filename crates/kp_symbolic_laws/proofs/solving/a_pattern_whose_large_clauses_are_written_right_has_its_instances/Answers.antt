use Rattle.kp_symbolic_laws.proofs.WrittenCourse.{read_right}
use Rattle.kp_symbolic_laws.proofs.solving.a_pattern_whose_large_clauses_are_written_right_has_its_instances.Goals as goal

pub returns : goal.returns
returns c = read_right
