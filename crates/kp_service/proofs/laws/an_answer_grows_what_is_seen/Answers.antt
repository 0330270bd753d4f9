use Rattle.kp_service.proofs.Growing.{answer_grows, begun_grows}
use Rattle.kp_service.proofs.laws.an_answer_grows_what_is_seen.Goals as goal

pub returns-clause-answered : goal.returns-clause-answered
returns-clause-answered c = answer_grows

pub returns-clause-begun : goal.returns-clause-begun
returns-clause-begun c = begun_grows
