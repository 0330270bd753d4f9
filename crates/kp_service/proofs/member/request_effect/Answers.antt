use Rattle.std.proofs.Common.{ap}
use Rattle.kp_rpc.specs.View.{name_view, options_view}
use Rattle.kp_requests.specs.Requests.{asks, execute, implies, simplify}
use Rattle.kp_requests.specs.View.{reading_view, request_view}
use Rattle.kp_service.proofs.Serving.{no_effect}
use Rattle.kp_service.proofs.member.request_effect.Goals as goal

pub returns-in-Execute-clause-done : goal.returns-in-Execute-clause-done
returns-in-Execute-clause-done g c = no_effect c.args.registry.now c.args.pass.now (asks (request_view c.args.request)) (asks (execute (reading_view c.in-Execute.state) (options_view c.in-Execute.options))) c.requires.pass (ap (λ r. asks (request_view r)) c.in-Execute.is) (λ o book. tt)

pub returns-in-Implies-clause-done : goal.returns-in-Implies-clause-done
returns-in-Implies-clause-done g c = no_effect c.args.registry.now c.args.pass.now (asks (request_view c.args.request)) (asks (implies (reading_view c.in-Implies.antecedent) (reading_view c.in-Implies.consequent) (name_view c.in-Implies.module_name))) c.requires.pass (ap (λ r. asks (request_view r)) c.in-Implies.is) (λ o book. tt)

pub returns-clause-done : goal.returns-clause-done
returns-clause-done g c = no_effect c.args.registry.now c.args.pass.now (asks (request_view c.args.request)) (asks (simplify (reading_view c.in-Simplify.state) (name_view c.in-Simplify.module_name))) c.requires.pass (ap (λ r. asks (request_view r)) c.in-Simplify.is) (λ o book. tt)
