use Rattle.std.proofs.Common.{◌≡◌, sym, subst, [], None}
use Rattle.kp_limits.specs.Wide.{first_wide}
use Rattle.kp_symbolic.specs.View.{state_view}
use Rattle.kp_unify.specs.Views.{signature_of}
use Rattle.kp_step.specs.Answers.{IsRightUndecided}
use Rattle.kp_step.specs.Counted.{most_for, IsCounted}
use Rattle.kp_step.proofs.EndLemmas.{open_at_all}
use Rattle.kp_step.proofs.stepping.open_alone.Goals as goal

pub returns : goal.returns
returns c none t used same told shows =
    let s = state_view c.args.state.now in
    let o = c.in_ok-told.told in
    let counted = subst (λ n. IsCounted (signature_of c.args.setting) s n o.over) c.in_ok-most.ensures c.in_ok-told.ensures.counted in
    open_at_all t s o told (subst (IsRightUndecided t.signature s) (sym c.in_ok-told.ensures.same) shows) (subst (λ g. IsCounted g s (most_for g s []) o.over) same counted) (subst (λ g. first_wide g s ≡ None) same none)
