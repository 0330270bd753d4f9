use Rattle.std.proofs.Common.{ap, ◌∙◌}
use Rattle.std.specs.Option.{option_map}
use Rattle.kp_rpc.specs.View.{id_view, name_view}
use Rattle.kp_requests.specs.View.{reading_view}
use Rattle.kp_methods.specs.Simplified.{IsSimplifiedAs}
use Rattle.kp_service.proofs.Serving.{line_over, served_line, unserved_line, was_asked}
use Rattle.kp_service.proofs.member.simplify_line.Goals as goal

pub returns-in-Some-clause-line : goal.returns-in-Some-clause-line
returns-in-Some-clause-line g c =
    let id = id_view c.args.id.now in
    let asked = name_view c.args.module_name in
    served_line c.simplified_line.result c.args.registry.now c.rules_at.new.pass asked _ c.in-Some._rules.value id (λ s. IsSimplifiedAs s.theory.signature id (reading_view c.args.state)) (ap (option_map (λ r. r.value)) c.in-Some.is) c.in_ok-_rules.ensures.means
    (λ s runs here over. line_over c.simplified_line.result id (reading_view c.args.state) (c.requires.prepared.signature ∙ over) c.simplified_line.ensures)

pub returns-in-None-clause-line : goal.returns-in-None-clause-line
returns-in-None-clause-line g c =
    let id = id_view c.args.id.now in
    unserved_line c.no_module_line.result c.args.registry.now c.rules_at.new.pass c.args.module_name _ id (λ s. IsSimplifiedAs s.theory.signature id (reading_view c.args.state)) (ap (option_map (λ r. r.value)) c.in-None.is)
    (was_asked c.in_ok-_rules.field-0 c.args.module_name c.in-None.is c.in_ok-_rules.ensures.named) c.in_ok-_rules.ensures.means c.no_module_line.ensures

pub no_module_line-requires : goal.no_module_line-requires
no_module_line-requires g c = record { named = was_asked c.in_ok-_rules.field-0 c.args.module_name c.in-None.is c.in_ok-_rules.ensures.named }
