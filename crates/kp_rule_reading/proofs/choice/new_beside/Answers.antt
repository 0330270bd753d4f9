use Rattle.std.proofs.Common.{subst, map, ◌++◌, not}
use Rattle.std.specs.List.{filter}
use Rattle.indexmap.specs.IndexSet.{contains_text}
use Rattle.kp_kore.specs.Parts.{free_variables}
use Rattle.kp_kore.specs.View.{view, sorted_variable_view}
use Rattle.kp_kore.specs.Rules.{top_binders, new_variables_of}
use Rattle.kp_rule_reading.specs.ReadRules.{Names}
use Rattle.kp_rule_reading.proofs.NewVariables.{new_named, seen_also}
use Rattle.kp_rule_reading.proofs.choice.new_beside.Goals as goal

pub returns : goal.returns
returns c =
    let names = c.in_ok-names.names in
    let olds = map sorted_variable_view c.in_ok-variables.variables.items in
    let left = view c.args.left.now in
    let right = view c.args.right.now in
    let named : Names names olds = subst (λ vs. Names names (map sorted_variable_view vs)) c.deref.ensures.value c.in_ok-names.ensures in
    seen_also (λ vs. map sorted_variable_view vs.items) c.new_variables.result (top_binders right ++ filter (λ x. not (contains_text names x.name)) (free_variables right)) (new_variables_of left right)
    c.new_variables.ensures (new_named names olds left right named c.in_ok-variables.ensures)
