use Rattle.std.proofs.Common.{◌≡◌, subst, Some}
use Rattle.std.specs.Option.{option_map}
use Rattle.std.proofs.lemmas.Result.{err_from_is_err_and}
use Rattle.kp_symbolic.specs.Languages.{language_view}
use Rattle.kp_symbolic.specs.View.{state_view}
use Rattle.kp_symbolic_laws.specs.Kept.{CanBeWritten}
use Rattle.kp_symbolic_laws.specs.Runs.{begins}
use Rattle.kp_solving.proofs.RoomLemmas.{kept_back, kept_at_last}
use Rattle.kp_solving.proofs.SettleLemmas.{first_solved, ends_like_itself, goes_further, is_settled}
use Rattle.kp_solving.proofs.WayLemmas.{comes_further}
use Rattle.kp_solving.proofs.solving.settle.Goals as goal

pub loop-round-init : goal.loop-round-init
loop-round-init c =
    let g = language_view c.args.language.now in
    (ends_like_itself g (state_view c.args.state), begins (state_view c.args.state), λ each. each)

pub loop-round-preserved : goal.loop-round-preserved
loop-round-preserved c =
    let g = language_view c.args.language.now in
    let s = state_view c.loop-round.settled in
    let next : Some (state_view c.in-Some.solved) ≡ first_solved g s = subst (λ o. option_map state_view o ≡ first_solved g s) c.in-Some.is c.in_ok-solved.ensures.solved in (
      goes_further g (state_view c.args.state) s (state_view c.in-Some.solved) next c.loop-round.invariant.0,
      comes_further g (state_view c.args.state) s (state_view c.in-Some.solved) next c.loop-round.invariant.1,
      λ each. c.loop-round.invariant.2 (kept_back g (CanBeWritten g) s (state_view c.in-Some.solved) next c.in_ok-solved.ensures.right each),
    )

pub returns-in-None-clause-solved : goal.returns-in-None-clause-solved
returns-in-None-clause-solved c =
    let g = language_view c.args.language.now in
    let s = state_view c.loop-round.settled in
    is_settled g (state_view c.args.state) s (subst (λ o. option_map state_view o ≡ first_solved g s) c.in-None.is c.in_ok-solved.ensures.solved) c.loop-round.invariant.0

pub returns-in_err-solved-clause-refused : goal.returns-in_err-solved-clause-refused
returns-in_err-solved-clause-refused c =
    let p = err_from_is_err_and c.from_residual.result c.from_residual.ensures.1 in
    rw (p.1, p.2) (λ each. c.in_err-solved.ensures.refused (each (state_view c.loop-round.settled) c.loop-round.invariant.1))

pub returns-in-None-clause-right : goal.returns-in-None-clause-right
returns-in-None-clause-right c =
    let g = language_view c.args.language.now in
    let s = state_view c.loop-round.settled in
    c.loop-round.invariant.2 (kept_at_last g (CanBeWritten g) s (subst (λ o. option_map state_view o ≡ first_solved g s) c.in-None.is c.in_ok-solved.ensures.solved))
