use Rattle.std.proofs.Common.{◌≡◌, ap, ◌∙◌, subst, map, ◌++◌}
use Rattle.kp_kore.specs.View.{sort_view, sorted_variable_view}
use Rattle.kp_symbolic.specs.View.{replaced_view, variables_view, state_view}
use Rattle.kp_unify.specs.Views.{signature_of, numbered_view}
use Rattle.kp_step.specs.Chosen.{chosen_view}
use Rattle.kp_step.specs.Follows.{kept_bindings}
use Rattle.kp_step.specs.RightSides.{AreChosen}
use Rattle.kp_step.proofs.FollowedLemmas.{state_made, follows_from}
use Rattle.kp_step.proofs.right_side.follow.Goals as goal

pub returns : goal.returns
returns c t used m s p same setting read met i fires values =
    let g = signature_of c.args.setting in
    let q = numbered_view c.args.part.now in
    let w = c.args.rewrite.now in
    let bs = map replaced_view c.args.bindings.now in
    let new = chosen_view c.in_ok-fresh.field-0 in
    let sort = sort_view c.in_ok-sort.sort.value in
    let items = c.in_ok-all.all.items in
    let made : variables_view c.deref-2.result.now ≡ new.new = ap variables_view c.deref-2.ensures.value in
    let own : map sorted_variable_view c.as_slice-own.result.now ≡ map sorted_variable_view w.sides.new_variables.items = ap (map sorted_variable_view) c.as_slice-own.ensures.value in
    let chosen : AreChosen used (map sorted_variable_view w.sides.new_variables.items) q.next new = subst (λ ns. AreChosen used ns q.next new) own (c.in_ok-fresh.ensures used setting) in
    let all : map replaced_view items ≡ kept_bindings (map sorted_variable_view w.sides.new_variables.items) bs ++ new.bindings =
    c.in_ok-all.ensures ∙ ap (λ ns. kept_bindings ns bs ++ new.bindings) own in
    let is : state_view c.in_ok-state.state ≡ state_made g q w (map replaced_view items) new.new sort =
    c.in_ok-state.ensures ∙ ap (λ rs. state_made g q w (map replaced_view rs) (variables_view c.deref-2.result.now) sort) c.deref.ensures.value
    ∙ ap (λ xs. state_made g q w (map replaced_view items) xs sort) made in
    follows_from t used s p q m w bs (map replaced_view items) new sort (state_view c.in_ok-state.state) (state_view c.in_ok-settle.field-0) g same read met i fires chosen all c.in_ok-sort.ensures is c.in_ok-settle.ensures.solved c.in_ok-settle.ensures.right values
