use Rattle.std.proofs.Common.{◌≡◌, ◌↔◌, ◌∙◌, sym, ap, subst, Ok, false}
use Rattle.std.specs.Prelude.{IfSome}
use Rattle.std.proofs.lemmas.Result.{err_from_is_err_and}
use Rattle.kp_kore.specs.View.{view}
use Rattle.kp_signature.specs.View.{signature_view}
use Rattle.kp_kore.specs.Instance.{Valuation}
use Rattle.kp_ground.specs.Matches.{IsSolvable}
use Rattle.kp_ground.specs.Solves.{Solves}
use Rattle.kp_ground.specs.View.{value_view}
use Rattle.kp_rules.specs.Heads.{FindsFiring, FiresAs}
use Rattle.kp_successors.specs.Nexts.{is_right_narrow}
use Rattle.kp_successors.proofs.Refused.{caused_by}
use Rattle.kp_successors.proofs.Finding.{next_moved, right_leaves}
use Rattle.kp_ground.specs.Solves.{bound_names}
use Rattle.kp_ground.specs.Slots.{left_variables}
use Rattle.kp_successors.proofs.next.next_on.Goals as goal

pub returns-in_ok-next_of-in-Some-clause-next : goal.returns-in_ok-next_of-in-Some-clause-next
returns-in_ok-next_of-in-Some-clause-next c =
    let g = signature_view c.args.signature.now in
    let r = c.args.rewrite.now in
    let u = value_view c.args.value.now in
    let solved : (v : Valuation) → Solves v c.in-Some.bindings.items ↔ FiresAs g r u v = subst (λ o. FindsFiring (Ok o) g r u) c.in-Some.is c.in_ok-bindings.ensures.firing in
    let some : IsSolvable c.in-Some.bindings.items = subst (λ o. IfSome o (λ new. IsSolvable new.items)) c.in-Some.is c.in_ok-bindings.ensures.solvable in (
      (some.0, (solved some.0).0 some.1),
      next_moved g r (λ v. Solves v c.deref.result.now) (FiresAs g r u) (view c.in_ok-next_of-in-Some.field-0) (λ v f. subst (Solves v) (sym c.deref.ensures.value) ((solved v).1 f)) c.in_ok-next_of-in-Some.ensures.next,
    )

pub returns-in_err-next_of-in-Some-clause-refused : goal.returns-in_err-next_of-in-Some-clause-refused
returns-in_err-next_of-in-Some-clause-refused c =
    let g = signature_view c.args.signature.now in
    let r = c.args.rewrite.now in
    let u = value_view c.args.value.now in
    let solved : (v : Valuation) → Solves v c.in-Some.bindings.items ↔ FiresAs g r u v = subst (λ o. FindsFiring (Ok o) g r u) c.in-Some.is c.in_ok-bindings.ensures.firing in
    let some : IsSolvable c.in-Some.bindings.items = subst (λ o. IfSome o (λ new. IsSolvable new.items)) c.in-Some.is c.in_ok-bindings.ensures.solvable in
    let p = err_from_is_err_and c.from_residual-in_err-next_of-in-Some.result c.from_residual-in_err-next_of-in-Some.ensures.1 in
    rw (p.1, p.2) (caused_by g _ _ c.in_err-next_of-in-Some.field-0.0
    (λ w. right_leaves g r u c.in-Some.bindings.items solved some (subst (λ bs. (v : Valuation) → Solves v bs → is_right_narrow r v ≡ false) c.deref.ensures.value w))
    c.in_err-next_of-in-Some.ensures.refused)

pub next_of-requires : goal.next_of-requires
next_of-requires c =
    let names : bound_names c.in-Some.bindings.items ≡ left_variables c.args.rewrite.now.left =
    subst (λ o. IfSome o (λ new. bound_names new.items ≡ left_variables c.args.rewrite.now.left)) c.in-Some.is c.in_ok-bindings.ensures.bound in
    ap bound_names c.deref.ensures.value ∙ names
