use Rattle.std.proofs.Common.{ap, string_bytes}
use Rattle.std.proofs.lemmas.Result.{IfOk-weaker}
use Rattle.kp_conn.proofs.Conversing.{at_err}
use Rattle.kp_rpc.specs.View.{id_view, name_view, options_view}
use Rattle.kp_requests.specs.Requests.{asks, execute, implies, simplify, add_module}
use Rattle.kp_requests.specs.View.{reading_view, request_view}
use Rattle.kp_service.proofs.Serving.{line_stays, lines_of}
use Rattle.kp_service.proofs.member.request_line.Goals as goal

pub returns-in-Execute-clause-told : goal.returns-in-Execute-clause-told
returns-in-Execute-clause-told g c =
    let id = id_view c.args.id.now in
    let asked = asks (execute (reading_view c.in-Execute.state) (options_view c.in-Execute.options)) in
    IfOk-weaker c.execute_line.result _ _ (λ line l. lines_of c.args.registry.now c.args.pass.now c.execute_line.new.pass id (asks (request_view c.args.request)) asked line.items (ap (λ r. asks (request_view r)) c.in-Execute.is)
    (line_stays c.args.registry.now c.args.pass.now c.execute_line.new.pass id asked line.items c.execute_line.ensures.pass c.execute_line.ensures.looked l)) c.execute_line.ensures.line

pub returns-in-Execute-clause-left : goal.returns-in-Execute-clause-left
returns-in-Execute-clause-left g c = at_err c.execute_line.result _ c.execute_line.ensures.looked

pub returns-in-Implies-clause-told : goal.returns-in-Implies-clause-told
returns-in-Implies-clause-told g c =
    let id = id_view c.args.id.now in
    let asked = asks (implies (reading_view c.in-Implies.antecedent) (reading_view c.in-Implies.consequent) (name_view c.in-Implies.module_name)) in
    IfOk-weaker c.implies_line.result _ _ (λ line l. lines_of c.args.registry.now c.args.pass.now c.implies_line.new.pass id (asks (request_view c.args.request)) asked line.items (ap (λ r. asks (request_view r)) c.in-Implies.is)
    (line_stays c.args.registry.now c.args.pass.now c.implies_line.new.pass id asked line.items c.implies_line.ensures.pass c.implies_line.ensures.looked l)) c.implies_line.ensures.line

pub returns-in-Implies-clause-left : goal.returns-in-Implies-clause-left
returns-in-Implies-clause-left g c = at_err c.implies_line.result _ c.implies_line.ensures.looked

pub returns-in-Simplify-clause-told : goal.returns-in-Simplify-clause-told
returns-in-Simplify-clause-told g c =
    let id = id_view c.args.id.now in
    let asked = asks (simplify (reading_view c.in-Simplify.state) (name_view c.in-Simplify.module_name)) in
    IfOk-weaker c.simplify_line.result _ _ (λ line l. lines_of c.args.registry.now c.args.pass.now c.simplify_line.new.pass id (asks (request_view c.args.request)) asked line.items (ap (λ r. asks (request_view r)) c.in-Simplify.is)
    (line_stays c.args.registry.now c.args.pass.now c.simplify_line.new.pass id asked line.items c.simplify_line.ensures.pass c.simplify_line.ensures.looked l)) c.simplify_line.ensures.line

pub returns-in-Simplify-clause-left : goal.returns-in-Simplify-clause-left
returns-in-Simplify-clause-left g c = at_err c.simplify_line.result _ c.simplify_line.ensures.looked

pub returns-in-AddModule-clause-told : goal.returns-in-AddModule-clause-told
returns-in-AddModule-clause-told g c =
    let asked = asks (add_module (string_bytes c.in-AddModule.text) c.in-AddModule.name_as_id) in
    IfOk-weaker c.added_line.result _ _ (λ line h. lines_of c.args.registry.now c.args.pass.now c.added_line.new.pass (id_view c.args.id.now) (asks (request_view c.args.request)) asked line.items (ap (λ r. asks (request_view r)) c.in-AddModule.is) h) c.added_line.ensures.told
