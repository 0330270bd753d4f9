use Rattle.std.proofs.Common.{◌≡◌, ◌↔◌, ◌∙◌, ap, sym, subst, true, string_bytes}
use Rattle.std.specs.Prelude.{All, ◌≢◌}
use Rattle.kp_ground.specs.Solves.{Solves}
use Rattle.kp_ground.specs.View.{value_view}
use Rattle.kp_rules.proofs.Showing.{kept_matches, fresh_solvable}
use Rattle.kp_rules.proofs.foreign_left_sides.match_variable.Goals as goal

pub returns-in-Some-clause-same : goal.returns-in-Some-clause-same
returns-in-Some-clause-same c =
    kept_matches c.in-Some.is_same c.keep_where.result c.args.bindings.items (λ v. v (string_bytes c.args.name.now.value) ≡ value_view c.args.value.now) c.keep_where.ensures
    (λ v s.
    let told : (c.in-Some.is_same ≡ true) ↔ (v c.as_str.result.now ≡ value_view c.args.value.now) = c.in-Some.ensures v (subst (Solves v) (sym c.deref.ensures.value) s) in
    subst (λ n. (c.in-Some.is_same ≡ true) ↔ (v n ≡ value_view c.args.value.now)) (c.as_str.ensures.value ∙ ap string_bytes c.deref-2.ensures) told)

pub returns-in_ok-with_binding-in-None-clause-solvable : goal.returns-in_ok-with_binding-in-None-clause-solvable
returns-in_ok-with_binding-in-None-clause-solvable c = λ s.
    fresh_solvable (string_bytes c.args.name.now.value) (value_view c.args.value.now) c.args.bindings.items c.in_ok-with_binding-in-None.field-0.items
    (subst (λ bs. All (λ b. string_bytes b.name.value ≢ string_bytes c.args.name.now.value) bs) c.deref.ensures.value
    (subst (λ n. All (λ b. string_bytes b.name.value ≢ n) c.deref.result.now) (c.as_str.ensures.value ∙ ap string_bytes c.deref-2.ensures) c.in-None.ensures))
    c.in_ok-with_binding-in-None.ensures s
