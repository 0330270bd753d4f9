use Rattle.std.proofs.Common.{◌≡◌, sym, ap, ◌∙◌, subst, string_bytes, Some}
use Rattle.std.specs.Option.{option_map}
use Rattle.indexmap.specs.IndexMap.{get_by_text}
use Rattle.kp_kore.specs.View.{sort_view}
use Rattle.kp_signature.specs.Places.{sort_in_scope}
use Rattle.kp_signature.specs.Verify.{difference}
use Rattle.kp_signature.proofs.ScopeLemmas.{kept_name, on_ok, ok_map, err_map}
use Rattle.kp_signature.proofs.scope.meet_variable.Goals as goal

pub returns-in-Some-clause-known : goal.returns-in-Some-clause-known
returns-in-Some-clause-known c =
    on_ok c.check_same.result (λ s knows. record {
      names = kept_name (string_bytes c.args.name.now) (sort_view c.args.sort.now) (sort_view c.in-Some.first.now) s (get_by_text c.args.scope.now) knows.names
          (sym (knows.names (string_bytes c.args.name.now)) ∙ ap (option_map sort_view) (sym (subst (λ bs. Some c.in-Some.first.now ≡ get_by_text c.args.scope.now bs) c.as_str.ensures.value c.in-Some.ensures.value)));
    })

pub returns-in-Some-clause-ok : goal.returns-in-Some-clause-ok
returns-in-Some-clause-ok c =
    ok_map c.check_same.result (λ e s knows.
    let there : sort_in_scope (string_bytes c.args.name.now) s ≡ Some (sort_view c.in-Some.first.now) = sym (knows.names (string_bytes c.args.name.now)) ∙ ap (option_map sort_view) (sym (subst (λ bs. Some c.in-Some.first.now ≡ get_by_text c.args.scope.now bs) c.as_str.ensures.value c.in-Some.ensures.value)) in
    ap (λ o. difference o (Some (sort_view c.args.sort.now))) there ∙ e) c.check_same.ensures.ok

pub returns-in-Some-clause-err : goal.returns-in-Some-clause-err
returns-in-Some-clause-err c =
    err_map c.check_same.result (λ e told f s knows is.
    let there : sort_in_scope (string_bytes c.args.name.now) s ≡ Some (sort_view c.in-Some.first.now) = sym (knows.names (string_bytes c.args.name.now)) ∙ ap (option_map sort_view) (sym (subst (λ bs. Some c.in-Some.first.now ≡ get_by_text c.args.scope.now bs) c.as_str.ensures.value c.in-Some.ensures.value)) in
    ap (λ o. difference o (Some (sort_view c.args.sort.now))) there ∙ told f is) c.check_same.ensures.err
