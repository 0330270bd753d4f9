use Rattle.std.proofs.Common.{rules, ◌≡◌, sym, ap, ◌∙◌, ◌+◌, ◌||◌, true, false, map, drop}
use Rattle.std.specs.List.{flat_map}
use Rattle.kp_kore.specs.Parts.{SortedName}
use Rattle.kp_kore.specs.View.{sorted_variable_view}
use Rattle.kp_kore.specs.Instance.{is_named}
use Rattle.kp_symbolic.specs.States.{variables_for}
use Rattle.kp_symbolic.specs.Terms.{replacement_for}
use Rattle.kp_symbolic.specs.View.{replaced_view}
use Rattle.kp_literals.proofs.NameLemmas.{named_at}
use Rattle.kp_literals.proofs.names.stands_for_one.Goals as goal

pub returns-then-stands_for : goal.returns-then-stands_for
returns-then-stands_for c =
    let x = c.args.name.now in
    let f = λ (y : SortedName). variables_for y (replacement_for (map replaced_view c.args.replaced.now) y.name) in
    let vs = c.args.variables.now in
    let i = c.loop-variable.variable-index in
    let here : is_named x (f (sorted_variable_view c.variable-item.result)) ≡ true = search rules in
    sym (c.loop-variable.invariant ∙ named_at x f sorted_variable_view vs i c.variable-item.result c.loop-variable-test.true c.variable-item.is ∙ ap (λ b. b || is_named x (flat_map f (map sorted_variable_view (drop (i + 1) vs)))) here)

pub loop-variable-preserved : goal.loop-variable-preserved
loop-variable-preserved c =
    let x = c.args.name.now in
    let f = λ (y : SortedName). variables_for y (replacement_for (map replaced_view c.args.replaced.now) y.name) in
    let vs = c.args.variables.now in
    let i = c.loop-variable.variable-index in
    let here : is_named x (f (sorted_variable_view c.variable-item.result)) ≡ false = search rules in
    c.loop-variable.invariant ∙ named_at x f sorted_variable_view vs i c.variable-item.result c.loop-variable-test.true c.variable-item.is ∙ ap (λ b. b || is_named x (flat_map f (map sorted_variable_view (drop (i + 1) vs)))) here
