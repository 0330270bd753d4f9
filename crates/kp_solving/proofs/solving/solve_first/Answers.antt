use Rattle.std.proofs.Common.{◌≡◌, subst, Some}
use Rattle.std.specs.Option.{option_map}
use Rattle.kp_symbolic.specs.Languages.{language_view}
use Rattle.kp_symbolic.specs.View.{state_view}
use Rattle.kp_symbolic.specs.Solving.{first_solvable}
use Rattle.kp_symbolic_laws.specs.Kept.{CanBeWritten}
use Rattle.kp_solving.specs.Solvables.{solvable_view}
use Rattle.kp_solving.proofs.RoomLemmas.{kept_at_first, none_at_first}
use Rattle.kp_solving.proofs.solving.solve_first.Goals as goal

pub returns-in_ok-solved-in-Some-clause-right : goal.returns-in_ok-solved-in-Some-clause-right
returns-in_ok-solved-in-Some-clause-right c =
    let g = language_view c.args.language.now in
    let s = state_view c.args.state.now in
    let is : Some (solvable_view c.in-Some.solvable) ≡ first_solvable g s = subst (λ o. option_map solvable_view o ≡ first_solvable g s) c.in-Some.is c.in_ok-solvable.ensures in
    kept_at_first g (CanBeWritten g) s (solvable_view c.in-Some.solvable) is c.in_ok-solved-in-Some.ensures.right

pub returns-in-None-clause-right : goal.returns-in-None-clause-right
returns-in-None-clause-right c =
    let g = language_view c.args.language.now in
    let s = state_view c.args.state.now in
    none_at_first g (CanBeWritten g) s (subst (λ o. option_map solvable_view o ≡ first_solvable g s) c.in-None.is c.in_ok-solvable.ensures)
