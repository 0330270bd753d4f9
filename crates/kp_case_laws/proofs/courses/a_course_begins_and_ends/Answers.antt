use Rattle.kp_case_laws.proofs.OnCourse.{on_begins, on_ends, on_ends_never}
use Rattle.kp_case_laws.proofs.OnRows.{all_bound}
use Rattle.kp_case_laws.proofs.courses.a_course_begins_and_ends.Goals as goal

pub returns-clause-begins : goal.returns-clause-begins
returns-clause-begins c = on_begins

pub returns-clause-ends : goal.returns-clause-ends
returns-clause-ends c = on_ends

pub returns-clause-bound : goal.returns-clause-bound
returns-clause-bound c = all_bound

pub returns-clause-never : goal.returns-clause-never
returns-clause-never c = on_ends_never
