use Rattle.kp_case_laws.proofs.CourseLemmas.{split_is_apart}
use Rattle.kp_case_laws.proofs.OnCourse.{on_asked, law_narrowed, law_whole}
use Rattle.kp_case_laws.proofs.courses.a_course_goes_on_in_parts.Goals as goal

pub returns-clause-asked : goal.returns-clause-asked
returns-clause-asked c = on_asked

pub returns-clause-narrowed : goal.returns-clause-narrowed
returns-clause-narrowed c = law_narrowed

pub returns-clause-whole : goal.returns-clause-whole
returns-clause-whole c = law_whole

pub returns-clause-apart : goal.returns-clause-apart
returns-clause-apart c = split_is_apart
