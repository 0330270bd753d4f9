use Rattle.std.proofs.Common.{rules, ◌≡◌, subst, true, map}
use Rattle.std.specs.List.{list_all}
use Rattle.std.proofs.lemmas.Result.{IfOk-weaker}
use Rattle.indexmap.specs.IndexSet.{contains_text}
use Rattle.kp_kore.specs.View.{view, sorted_variable_view}
use Rattle.kp_signature.specs.View.{signature_view}
use Rattle.kp_rule_reading.specs.ReadRules.{Names, is_left_read, is_predicate_read}
use Rattle.kp_rules.specs.Shapes.{seen}
use Rattle.kp_rule_reading.proofs.ReadShapes.{side_read_from}
use Rattle.kp_rule_reading.proofs.read.is_read_side.Goals as goal

pub returns : goal.returns
returns c =
    let g = signature_view c.args.signature.now in
    let left = view c.args.side.now.term.now in
    let predicates = c.args.side.now.predicates.items in
    let names = c.in_ok-names.names in
    let so : is_left_read g left ≡ true = search rules in
    IfOk-weaker c.is_read_condition.result _ _ (λ b e.
    side_read_from g names left (map sorted_variable_view c.in_ok-variables.variables.items) (seen predicates) b so
    (subst (λ vs. Names names (map sorted_variable_view vs)) c.deref.ensures.value c.in_ok-names.ensures) c.in_ok-variables.ensures
    (subst (λ ps. b ≡ list_all (is_predicate_read (contains_text names)) (seen ps)) c.deref-2.ensures.value e)) c.is_read_condition.ensures
