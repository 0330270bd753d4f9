use Rattle.std.proofs.Common.{ap, subst, ◌∙◌}
use Rattle.std.specs.Option.{option_map}
use Rattle.std.specs.Result.{IfOk}
use Rattle.kp_rpc.specs.View.{id_view, name_view}
use Rattle.kp_requests.specs.View.{reading_view}
use Rattle.kp_methods.specs.Implied.{IsImpliedAs}
use Rattle.kp_methods.specs.ImpliedLines.{IsLineOf}
use Rattle.kp_service.proofs.Serving.{served_line, unserved_line, was_asked}
use Rattle.kp_service.proofs.member.implies_line.Goals as goal

pub returns-in-Some-clause-line : goal.returns-in-Some-clause-line
returns-in-Some-clause-line g c =
    let id = id_view c.args.id.now in
    let asked = name_view c.args.module_name in
    let left = reading_view c.args.antecedent in
    let right = reading_view c.args.consequent in
    served_line c.implied_line.result c.args.registry.now c.rules_at.new.pass asked _ c.in-Some._rules.value id (λ s. IsImpliedAs s.theory.signature id left right) (ap (option_map (λ r. r.value)) c.in-Some.is) c.in_ok-_rules.ensures.means
    (λ s runs here over. subst (λ k. IfOk c.implied_line.result (λ line. IsLineOf (IsImpliedAs k id left right) line.items)) (c.requires.prepared.signature ∙ over) c.implied_line.ensures)

pub returns-in-None-clause-line : goal.returns-in-None-clause-line
returns-in-None-clause-line g c =
    let id = id_view c.args.id.now in
    unserved_line c.no_module_line.result c.args.registry.now c.rules_at.new.pass c.args.module_name _ id (λ s. IsImpliedAs s.theory.signature id (reading_view c.args.antecedent) (reading_view c.args.consequent)) (ap (option_map (λ r. r.value)) c.in-None.is)
    (was_asked c.in_ok-_rules.field-0 c.args.module_name c.in-None.is c.in_ok-_rules.ensures.named) c.in_ok-_rules.ensures.means c.no_module_line.ensures

pub no_module_line-requires : goal.no_module_line-requires
no_module_line-requires g c = record { named = was_asked c.in_ok-_rules.field-0 c.args.module_name c.in-None.is c.in_ok-_rules.ensures.named }
