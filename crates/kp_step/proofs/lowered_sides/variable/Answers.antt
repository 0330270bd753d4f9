use Rattle.std.proofs.Common.{◌≡◌, ap, subst, ◌∙◌, string_bytes}
use Rattle.std.specs.Prelude.{MatchOption, ⊤}
use Rattle.kp_kore.specs.View.{sort_view}
use Rattle.kp_signature.specs.View.{signature_view}
use Rattle.kp_rules.specs.Skeletons.{one_of, skeleton_view}
use Rattle.kp_case_laws.specs.Courses.{form_variables}
use Rattle.kp_step.specs.OneSort.{IsLowest}
use Rattle.kp_step.proofs.LoweredLemmas.{variable_made}
use Rattle.kp_step.proofs.lowered_sides.variable.Goals as goal

pub returns-in_ok-copy-in-Some : goal.returns-in_ok-copy-in-Some
returns-in_ok-copy-in-Some c =
    let g = signature_view c.args.signature.now in
    let name = string_bytes c.args.name.now.value in
    let sort = sort_view c.args.sort.now in
    let low = sort_view c.in-Some.low.now in
    let xs = form_variables (skeleton_view c.args.whole.now) in
    let is = subst (λ o. MatchOption o ⊤ (λ next. IsLowest g name sort xs (sort_view next.now))) c.in-Some.is c.lowest.ensures in
    let copied = c.in_ok-copy-in-Some.field-0 in
    let seen : skeleton_view c.variable_at.result ≡ one_of name low =
    c.variable_at.ensures ∙ ap (λ n. one_of n (sort_view copied)) (ap string_bytes c.in_ok-name-in-Some.ensures) ∙ ap (one_of name) c.in_ok-copy-in-Some.ensures in
    variable_made g xs name sort low c.variable_at.result seen is
