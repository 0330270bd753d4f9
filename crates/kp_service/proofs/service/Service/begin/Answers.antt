use Rattle.kp_service.proofs.Serving.{begun_seen}
use Rattle.kp_service.proofs.service.Service.begin.Goals as goal

pub returns-clause-seen : goal.returns-clause-seen
returns-clause-seen c = begun_seen c.in_ok-registry.registry c.in_ok-registry.pass c.args.table c.in_ok-registry.ensures.about.0 c.in_ok-registry.ensures.none.0 c.in_ok-registry.ensures.none.1
