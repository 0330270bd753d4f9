use Rattle.std.proofs.Common.{rules, ◌≡◌, sym, subst, map, string_bytes}
use Rattle.kp_kore.specs.Value.{constructed}
use Rattle.kp_ground.specs.View.{value_view, values_of}
use Rattle.kp_ground.specs.declared.value.Value.{the_lemmas}
use Rattle.kp_rules.specs.Skeletons as model
use Rattle.kp_case_laws.specs.Rows.{HasMembers}
use Rattle.kp_unify.proofs.FormLemmas.{members_of_value}
use Rattle.kp_unify.proofs.left_parts.ask_of_value.Goals as goal

pub returns-in-Constructed : goal.returns-in-Constructed
returns-in-Constructed c =
    let name = string_bytes c.in-Constructed.constructor.value in
    let us = c.in-Constructed.arguments.value.items in
    let seen : value_view c.args.value.now ≡ constructed name (values_of (map value_view us)) = search (rules, the_lemmas, c.in-Constructed.is) in
    let told : HasMembers (model.fixed (value_view c.args.value.now)) name (model.forms_of (map (λ u. model.fixed (value_view u)) us)) =
    subst (λ w. HasMembers (model.fixed w) name (model.forms_of (map (λ u. model.fixed (value_view u)) us))) (sym seen) (members_of_value name us) in
    let same : us ≡ c.deref-in-Constructed.result.now = search rules in
    subst (λ vs. HasMembers (model.fixed (value_view c.args.value.now)) name (model.forms_of (map (λ u. model.fixed (value_view u)) vs))) same told
