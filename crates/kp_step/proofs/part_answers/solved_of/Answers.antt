use Rattle.std.proofs.Common.{rules, ◌≡◌, subst}
use Rattle.kp_symbolic.specs.Solving.{Solving}
use Rattle.kp_symbolic_laws.specs.Runs.{OfEachKept}
use Rattle.kp_symbolic_laws.specs.Kept.{CanBeWritten}
use Rattle.kp_symbolic.specs.View.{state_view}
use Rattle.kp_unify.specs.Views.{signature_of}
use Rattle.kp_step.proofs.SettledLemmas.{known_by_solved}
use Rattle.kp_step.proofs.part_answers.solved_of.Goals as goal

pub returns-in-Ok : goal.returns-in-Ok
returns-in-Ok c =
    let g = signature_of c.args.setting in
    let p = state_view c.args.part.now in
    let s = state_view c.in-Ok.solved in
    let right : OfEachKept g (CanBeWritten g) (state_view c.in_ok-share.field-0) = search rules in
    let solved : Solving g (state_view c.in_ok-share.field-0) s = search rules in
    known_by_solved g p s (subst (OfEachKept g (CanBeWritten g)) c.in_ok-share.ensures right) (subst (λ x. Solving g x s) c.in_ok-share.ensures solved)
