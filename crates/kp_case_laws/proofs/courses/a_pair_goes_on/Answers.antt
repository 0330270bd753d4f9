use Rattle.kp_case_laws.proofs.OnCourse.{on_goes, on_never}
use Rattle.kp_case_laws.proofs.courses.a_pair_goes_on.Goals as goal

pub returns-clause-asked : goal.returns-clause-asked
returns-clause-asked c = on_goes

pub returns-clause-never : goal.returns-clause-never
returns-clause-never c = on_never
