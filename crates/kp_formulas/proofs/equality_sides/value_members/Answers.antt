use Rattle.std.proofs.Common.{rules, ◌≡◌, ◌∙◌, sym, ap, map, subst, IfOk, string_bytes}
use Rattle.kp_ground.specs.View.{value_view, values_of}
use Rattle.kp_ground.specs.declared.value.Value.{the_lemmas}
use Rattle.kp_kore.specs.Value.{constructed}
use Rattle.kp_symbolic.specs.View.{term_view}
use Rattle.kp_formulas.specs.Seen.{known_members}
use Rattle.kp_formulas.proofs.Firsts.{known_are_members}
use Rattle.kp_formulas.proofs.equality_sides.value_members.Goals as goal

pub returns-in-Constructed : goal.returns-in-Constructed
returns-in-Constructed c =
    let us = c.deref-in-Constructed.result.now in
    let vs = c.in-Constructed.arguments.value.items in
    let same : us ≡ vs = search rules in
    let is : value_view c.args.value.now ≡ constructed (string_bytes c.in-Constructed.constructor.value) (values_of (map value_view vs)) = search (rules, the_lemmas) in
    subst (λ x. IfOk c.known_terms.result (λ r. map term_view r.items ≡ x))
    (known_are_members us ∙ ap (λ ws. known_members (constructed (string_bytes c.in-Constructed.constructor.value) (values_of (map value_view ws)))) same ∙ ap known_members (sym is))
    c.known_terms.ensures
