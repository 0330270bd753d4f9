use Rattle.std.proofs.Common.{rules, ◌≡◌, ◌↔◌, sym, subst, true, []}
use Rattle.std.specs.Prelude.{is_some, Ok, IfSome}
use Rattle.std.specs.declared.alloc.AllocError.{AllocError}
use Rattle.kp_signature.specs.View.{signature_view}
use Rattle.kp_ground.specs.Matches.{Matches}
use Rattle.kp_ground.specs.View.{value_view}
use Rattle.kp_rules.specs.Skeletons.{skeleton_view, Shows, IsSolvable, IsAdmitted}
use Rattle.kp_rules.proofs.Showing.{decides_admitted}
use Rattle.kp_rules.proofs.skeleton.Skeleton.admits.Goals as goal

pub returns : goal.returns
returns c = λ s.
    let g = signature_view c.args.signature.now in
    let u = value_view c.args.value.now in
    let o = c.in_ok-bindings.bindings in
    let same : Matches {E = AllocError} (Ok o) [] (λ v. Shows g v (skeleton_view c.args.self.now) u) =
    subst (λ old. Matches {E = AllocError} (Ok o) old (λ v. Shows g v (skeleton_view c.args.self.now) u)) c.new.ensures.items c.in_ok-bindings.ensures.same in
    let solvable : IsSolvable [] → IfSome o (λ new. IsSolvable new.items) =
    subst (λ old. IsSolvable old → IfSome o (λ new. IsSolvable new.items)) c.new.ensures.items c.in_ok-bindings.ensures.solvable in
    let is : c.is_some.result ≡ is_some o = search rules in
    subst (λ b. (b ≡ true) ↔ IsAdmitted g c.args.self.now u) (sym is) (decides_admitted g c.args.self.now u o same solvable s)
