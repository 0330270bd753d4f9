use Rattle.std.proofs.Common.{◌≡◌, ◌∙◌, sym, ap, ◌++◌, ◌∷◌, [], map, false}
use Rattle.std.specs.Prelude.{is_some}
use Rattle.std.proofs.lemmas.List.{map-append}
use Rattle.kp_kore.specs.View.{sorted_variable_view}
use Rattle.kp_symbolic.specs.Terms.{unknown, replacement_for}
use Rattle.kp_symbolic.specs.View.{variable_view, replaced_view, variables_view}
use Rattle.kp_step.specs.Chosen.{chosen_view}
use Rattle.kp_step.proofs.ChosenLemmas.{is_chosen}
use Rattle.kp_step.proofs.new_variables.choose_one.Goals as goal

pub returns : goal.returns
returns c used setting =
    let y = sorted_variable_view c.args.own.now in
    let v = variable_view c.in_ok-new.new.variable.value in
    let before = c.args.chosen.now in
    let none : is_some (replacement_for (map replaced_view before.bindings.items) y.name) ≡ false = ap (λ bs. is_some (replacement_for (map replaced_view bs) y.name)) (sym c.deref.ensures.value) ∙ sym c.is_bound.ensures ∙ c.if-is_bound.false in
    let bound : map replaced_view c.push.new.self.items ≡ map replaced_view before.bindings.items ++ record { name = y.name; term = unknown v } ∷ [] =
    ap (map replaced_view) c.in_ok-push.ensures.items ∙ map-append replaced_view before.bindings.items (c.in_ok-stands_for.field-0 ∷ []) ∙ ap (λ r. map replaced_view before.bindings.items ++ r ∷ []) c.in_ok-stands_for.ensures in
    let made : variables_view c.push-2.new.self.items ≡ variables_view before.made.items ++ v ∷ [] = ap variables_view c.in_ok-push-2.ensures.items ∙ map-append (λ x. variable_view x.value) before.made.items (c.in_ok-new.new.variable ∷ []) in
    is_chosen used y v (chosen_view before) _ none (c.in_ok-new.ensures.named used setting.lists) c.in_ok-new.ensures.sort bound made
