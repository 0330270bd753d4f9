use Rattle.std.proofs.Common.{◌∙◌, ap, subst, sym}
use Rattle.std.specs.Option.{option_map}
use Rattle.kp_rule_sets.specs.RuleSets.{RunsAs}
use Rattle.kp_rpc.specs.View.{id_view, options_view}
use Rattle.kp_requests.specs.View.{reading_view}
use Rattle.kp_methods.specs.Executed.{IsExecutedAs}
use Rattle.kp_service.proofs.Serving.{served_line, unserved_line, was_asked}
use Rattle.kp_service.proofs.member.execute_line.Goals as goal

pub returns-in-Some-clause-line : goal.returns-in-Some-clause-line
returns-in-Some-clause-line g c =
    let id = id_view c.args.id.now in
    let options = options_view c.args.options in
    served_line c.executed_line.result c.args.registry.now c.rules_at.new.pass options.module_name _ c.in-Some.rules.value id (λ s. IsExecutedAs s id options (reading_view c.args.state)) (ap (option_map (λ r. r.value)) c.in-Some.is) c.in_ok-rules.ensures.means
    (λ s runs here over. c.executed_line.ensures s (subst (RunsAs s.theory) (sym c.deref.ensures) runs) (c.requires.prepared.signature ∙ over) here)

pub returns-in-None-clause-line : goal.returns-in-None-clause-line
returns-in-None-clause-line g c =
    let id = id_view c.args.id.now in
    let options = options_view c.args.options in
    unserved_line c.no_module_line.result c.args.registry.now c.rules_at.new.pass c.args.options.module_name _ id (λ s. IsExecutedAs s id options (reading_view c.args.state)) (ap (option_map (λ r. r.value)) c.in-None.is)
    (was_asked c.in_ok-rules.field-0 c.args.options.module_name c.in-None.is c.in_ok-rules.ensures.named) c.in_ok-rules.ensures.means c.no_module_line.ensures

pub no_module_line-requires : goal.no_module_line-requires
no_module_line-requires g c = record { named = was_asked c.in_ok-rules.field-0 c.args.options.module_name c.in-None.is c.in_ok-rules.ensures.named }
