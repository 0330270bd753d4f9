use Rattle.std.proofs.Common.{ap}
use Rattle.kp_requests.specs.Requests.{asks, refused}
use Rattle.kp_requests.specs.View.{asked_view, request_view}
use Rattle.kp_rpc.specs.View.{refusal_view}
use Rattle.kp_service.proofs.Serving.{effect_of, no_effect}
use Rattle.kp_service.proofs.member.take_effect.Goals as goal

pub returns-in-Request-clause-done : goal.returns-in-Request-clause-done
returns-in-Request-clause-done g c = effect_of c.request_effect.result c.args.registry.now c.args.pass.now c.request_effect.new.pass (asked_view c.args.asked) (asks (request_view c.in-Request.request)) (ap asked_view c.in-Request.is) c.request_effect.ensures.done

pub returns-in-Refused-clause-done : goal.returns-in-Refused-clause-done
returns-in-Refused-clause-done g c = no_effect c.args.registry.now c.args.pass.now (asked_view c.args.asked) (refused (refusal_view c.in-Refused._refusal)) c.requires.pass (ap asked_view c.in-Refused.is) (λ o book. tt)
