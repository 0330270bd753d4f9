use Rattle.std.proofs.Common.{sym, ◌∙◌, map, not, ◌&&◌, ◌||◌}
use Rattle.std.specs.List.{list_any}
use Rattle.std.specs.Str.{bytes_eq}
use Rattle.kp_kore.specs.Attributes.{sorts_equal}
use Rattle.kp_kore.specs.Instance.{is_named}
use Rattle.kp_kore.specs.View.{sorted_variable_view}
use Rattle.kp_rules.specs.Shapes.{variables_seen}
use Rattle.kp_sides.proofs.NameLemmas.{found_here, found_later}
use Rattle.kp_sides.proofs.unclear.first_among.Goals as goal

pub returns-then-is_unclear : goal.returns-then-is_unclear
returns-then-is_unclear c =
    let xs = map sorted_variable_view c.args.all.now in
    sym (c.loop-variable.invariant ∙ found_here (λ x. list_any (λ y. bytes_eq x.name y.name && not (sorts_equal x.sort y.sort)) xs || is_named x.name (variables_seen c.args.binders.now)) sorted_variable_view (λ x. x.name)
    c.args.variables.now c.loop-variable.variable-index c.variable-item.result c.loop-variable-test.true c.variable-item.is (sym c.is_unclear.ensures ∙ c.if-is_unclear.true))

pub loop-variable-preserved : goal.loop-variable-preserved
loop-variable-preserved c =
    let xs = map sorted_variable_view c.args.all.now in
    c.loop-variable.invariant ∙ found_later (λ x. list_any (λ y. bytes_eq x.name y.name && not (sorts_equal x.sort y.sort)) xs || is_named x.name (variables_seen c.args.binders.now)) sorted_variable_view (λ x. x.name)
    c.args.variables.now c.loop-variable.variable-index c.variable-item.result c.loop-variable-test.true c.variable-item.is (sym c.is_unclear.ensures ∙ c.if-is_unclear.false)
