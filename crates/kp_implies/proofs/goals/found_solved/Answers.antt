use Rattle.std.proofs.Common.{subst}
use Rattle.kp_symbolic.specs.View.{state_view}
use Rattle.kp_unify.specs.Views.{signature_of}
use Rattle.kp_step.proofs.SortedLemmas.{sorted_clauses}
use Rattle.kp_implies.specs.Steps.{TellsState}
use Rattle.kp_implies.proofs.FoundLemmas.{when_left}
use Rattle.kp_implies.proofs.goals.found_solved.Goals as goal

pub returns-in-Instance : goal.returns-in-Instance
returns-in-Instance c safe =
    let g = signature_of c.args.setting.now in
    let s = state_view c.args.asked in
    subst (TellsState g s) c.in-Instance.is (c.in_ok-found_of.ensures (sorted_clauses g s safe.sorted))

pub returns-in-Nothing : goal.returns-in-Nothing
returns-in-Nothing c safe =
    let g = signature_of c.args.setting.now in
    let s = state_view c.args.asked in
    subst (TellsState g s) c.in-Nothing.is (c.in_ok-found_of.ensures (sorted_clauses g s safe.sorted))

pub returns-in-Undecided : goal.returns-in-Undecided
returns-in-Undecided c =
    let g = signature_of c.args.setting.now in
    let s = state_view c.args.asked in
    when_left g s c.in-Undecided.«open» c.solved_or.result c.solved_or.ensures (λ safe. subst (TellsState g s) c.in-Undecided.is (c.in_ok-found_of.ensures (sorted_clauses g s safe.sorted)))
