use Rattle.kp_case_laws.proofs.PartLemmas.{clauses_restrict}
use Rattle.kp_case_laws.proofs.cases.further_clauses_restrict_a_part.Goals as goal

pub returns : goal.returns
returns c = clauses_restrict
