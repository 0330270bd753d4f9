use Rattle.std.proofs.Common.{◌≡◌, ◌∙◌, ap, subst, map, not}
use Rattle.std.proofs.lemmas.Result.{IfOk-weaker}
use Rattle.indexmap.specs.IndexSet.{contains_text}
use Rattle.kp_kore.specs.Parts.{free_variables}
use Rattle.kp_kore.specs.View.{view, sorted_variable_view}
use Rattle.kp_rule_reading.specs.ReadRules.{Names, is_plain_by}
use Rattle.kp_rules.specs.Shapes.{seen}
use Rattle.kp_rule_reading.proofs.ReadShapes.{plain_same}
use Rattle.kp_rule_reading.proofs.read.chooses_beside.Goals as goal

pub returns : goal.returns
returns c =
    let left = view c.args.shape.now.left.term.now in
    let right = view c.args.right.now in
    let names = c.in_ok-names.names in
    IfOk-weaker c.chooses.result _ _ (λ b h.
    subst (λ ps. b ≡ not (is_plain_by (contains_text names) right (seen ps))) c.deref-2.ensures.value h
    ∙ ap not (plain_same names (map sorted_variable_view c.in_ok-variables.variables.items) (free_variables left) right (seen c.args.shape.now.right.predicates.items)
    (subst (λ vs. Names names (map sorted_variable_view vs)) c.deref.ensures.value c.in_ok-names.ensures) c.in_ok-variables.ensures)) c.chooses.ensures
