use Rattle.std.proofs.Common.{rules, ◌≡◌, ◌∙◌, sym, ap, subst}
use Rattle.std.specs.Prelude.{IfOk}
use Rattle.kp_kore.specs.Signature.{IsBelow}
use Rattle.kp_kore.specs.View.{sort_view}
use Rattle.kp_unify.specs.Views.{signature_of}
use Rattle.kp_step.specs.RightSides.{written_at}
use Rattle.kp_step.proofs.FollowedLemmas.{written_below, written_same, written_own, still_seen}
use Rattle.kp_step.proofs.OneSortLemmas.{so_false}
use Rattle.kp_step.proofs.right_side.written_sort.Goals.{then-equal-via-then-equal, then-equal-via-else-equal+then-subsort}
use Rattle.kp_step.proofs.right_side.written_sort.Goals as goal

pub returns-then-equal : goal.returns-then-equal
returns-then-equal c =
    let g = signature_of c.args.setting in
    let own = sort_view c.args.own.now in
    let state = sort_view c.args.state.now.value in
    let written : state ≡ written_at g own state = elim c.then-equal.branch [
      | then-equal-via-then-equal w ↦ search (rules, written_same g own state)
      | then-equal-via-else-equal+then-subsort w ↦ search (rules, written_below g own state)
    ] in
    let same : IfOk c.clone.result (λ s. sort_view s.value ≡ state) = search rules in
    still_seen c.clone.result (λ s. sort_view s.value) state (written_at g own state) written same

pub returns : goal.returns
returns c =
    let g = signature_of c.args.setting in
    let own = sort_view c.args.own.now in
    let none : ¬ IsBelow g.subsorts own (sort_view c.args.state.now.value) = λ b. so_false c.subsort.result c.if-subsort.false (c.subsort.ensures.1 (subst (λ s. IsBelow g.subsorts own (sort_view s)) (sym c.deref-else-equal.ensures) b)) in
    ap sort_view c.in_ok-new.ensures.ok ∙ c.in_ok-copy.ensures ∙ written_own g own (sort_view c.args.state.now.value) none
